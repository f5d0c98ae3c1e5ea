-- Links between the children of a node, as two arrays. Definitions only.
use Rattle.std.specs.Prelude.{◌≡◌, cond, List, [], ◌∷◌, ℕ, ◌+◌, ◌-◌, ◌<◌, eqb, get_or}
use Rattle.lists.specs.Seq.{keep, up_from}
use Rattle.plan.specs.Plan.{size, parent}

-- A4: v's children from node c on
unfoldable pub children_from : List ℕ → ℕ → ℕ → List ℕ
children_from p v c = keep (λ d. eqb (parent p d) v) (up_from c (size p - c))

-- A4: v's children from c on, where c is one of them; 0, which is nobody's child, stands for none
unfoldable pub led_to : List ℕ → ℕ → ℕ → List ℕ
led_to p v c = cond (eqb c 0) [] (c ∷ children_from p v (c + 1))

-- A4: `first` leads to each node's children, `next` to the children behind it
pub record Linked (p first next : List ℕ) : Type 0 where
  pub child : (v : ℕ) → v < size p → children_from p v 1 ≡ led_to p v (get_or first v 0)
  pub sibling : (c : ℕ) → 0 < c → c < size p → children_from p (parent p c) (c + 1) ≡ led_to p (parent p c) (get_or next c 0)
