-- One child, by the links, and what is below a node that has no other. Assumes nothing.
use mathlib.Core.Path.{◌≡◌, refl, sym, ◌∙◌, ap}
use mathlib.Core.Bool.{Bool, true, false, ◌&&◌, not}
use mathlib.Core.List.{List, [], ◌∷◌}
use Prim.Native.Nat.{ℕ, ◌<◌}
use native.Mathlib.Omega.{arith}
use lib.Dec.{eqb}
use lib.ListN.{length, get_or}
use borrow.Author.Tests.{eqb-true, eqb-false, ne_eqb}
use Rattle.lists.proofs.Logic.{cases, decided}
use Rattle.plan.specs.Plan.{size, children, child_count}
use Rattle.plan.specs.Check.{Accepted}
use Rattle.plan.proofs.PlanLaws.{Child}
use Rattle.plan.proofs.AcceptedLaws.{accepted-ordered}
use Rattle.plan.proofs.Exact.{none_left}
use Rattle.links.specs.Links.{led_to, Linked}
use Rattle.links.proofs.LinkLaws.{led-none, led-some, first-child, led-all, led_on}
use Rattle.trees.specs.Tree.{trees_of, trees_below, tree_at}
use Rattle.trees.proofs.TreeLaws.{trees-step}
use Rattle.trees.proofs.RenumberLaws.{below-few}
use Rattle.placing.specs.Place.{Placeable}
use Rattle.template.specs.Claim.{Template}

module _ {p first next : List ℕ} (links : Linked p first next) (v : ℕ) (l : v < size p) (c : ℕ) (e : c ≡ get_or first v 0) where
  led : children p v ≡ led_to p v c
  led = rw e (led-all links v l)

  child : (c ≡ 0 → ⊥) → Child p v c
  child n = rw e (first-child links v l (λ z. n (e ∙ z))).0

  led-first : (c ≡ 0 → ⊥) → children p v ≡ c ∷ led_to p v (get_or next c 0)
  led-first n = led ∙ led_on links v c n (child n)

  pub first-within : Accepted p → c < 160
  first-within ok = cases (decided (eqb c 0)) (λ z. let e = eqb-true c 0 z in omega arith) (λ z. omega (arith, (child (eqb-false c 0 z)).high, ok.few))

  -- a first child, and no sibling behind it
  pub one_told : (not (eqb c 0) && eqb (get_or next c 0) 0) ≡ eqb (child_count p v) 1
  unfolding child_count
  one_told = go (eqb c 0) refl (eqb (get_or next c 0) 0) refl
    where
      go : (a : Bool) → eqb c 0 ≡ a → (b : Bool) → eqb (get_or next c 0) 0 ≡ b → (not a && b) ≡ eqb (length (children p v)) 1
      go true z b y = rw (led ∙ led-none p v c (eqb-true c 0 z))
      go false z true y = rw (led-first (eqb-false c 0 z), led-none p v (get_or next c 0) (eqb-true (get_or next c 0) 0 y))
      go false z false y =
          let d = ap length (led-first (eqb-false c 0 z)) in
          let f = ap length (led-some p v (get_or next c 0) (eqb-false (get_or next c 0) 0 y)) in
          sym (ne_eqb (length (children p v)) 1 (λ q. omega (arith, d, f)))

-- the tree of an only child is all that is below its parent
module _ {p first next : List ℕ} {m : ℕ} (h : Template p m) (links : Linked p first next) (c : ℕ) (e : c ≡ get_or first m 0) where
  only-some : c ≡ 0 → ⊥
  only-some z = let n = ap length (led links m h.node c e ∙ led-none p m c z) in omega (arith, h.one)

  pub only-node : c < size p
  only-node = (child links m h.node c e only-some).high

  only : children p m ≡ c ∷ []
  only = let all = led-first links m h.node c e only-some in
      all ∙ ap (λ cs. c ∷ cs) (none_left (led_to p m (get_or next c 0)) (omega (arith, ap length all, h.one)))

  pub only_below : trees_below p m ≡ tree_at p c
  unfolding trees_of
  only_below = trees-step p (accepted-ordered p h.accepted) m h.node ∙ rw only

-- there is room for v's tree in 320 bytes
pub below-ready : {p first next : List ℕ} → Accepted p → Linked p first next → (v : ℕ) → v < size p → (b : List ℕ) → length b ≡ 320 → Placeable p first next b v 0 (trees_below p v)
below-ready {p} ok links v l b e = record { accepted = ok; linked = links; node = l; room = omega (arith, below-few p ok v l, ok.few); few = omega arith }
