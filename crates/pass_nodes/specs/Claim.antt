-- THE CLAIMS: the pass node by node, and what follows of two lists of answers. Definitions only.
use Rattle.std.specs.Prelude.{◌≡◌, cond, List, ℕ, ◌<◌, eqb, get_or}
use Rattle.lists.specs.Member.{In}
use Rattle.plan.specs.Plan.{kind, size, children}
use Rattle.plan.specs.Check.{Accepted}
use Rattle.plan.specs.Under.{Under, Below}
use Rattle.pass.specs.Pass.{number_of, root_mark, pass}
use Rattle.pass_nodes.specs.Nodes.{end_by, end_at, gives, pass_mark, Read}

-- F2 to F5, H13: a node ends by its children's ends, and the pass's number is the root's. Where it is 0, the root's mark goes by its end, and
-- another node's is what its parent gives it, or 0 where the parent is not reached
pub record ByNodes (p a : List ℕ) : Type 0 where
  pub ends : (v : ℕ) → v < size p → end_at p a v ≡ end_by (kind p v) (get_or a v 0) (end_at p a) (children p v)
  pub number : (pass p a).number ≡ number_of (end_at p a 0)
  pub root : (pass p a).number ≡ 0 → pass_mark p a 0 ≡ root_mark (end_at p a 0)
  pub child : (pass p a).number ≡ 0 → (v c : ℕ) → In c (children p v) → pass_mark p a c ≡ cond (eqb (pass_mark p a v) 0) 0 (gives p a v c)

-- MAIN CLAIM (F2 to F5)
abbrev pub PassByNodes : Type 0
PassByNodes = (p : List ℕ) → Accepted p → (a : List ℕ) → ByNodes p a

-- F1: two lists have the same answers in v's subtree
abbrev pub SameUnder : List ℕ → List ℕ → List ℕ → ℕ → Type 0
SameUnder p a b v = (w : ℕ) → w < size p → Under p v w → get_or a w 0 ≡ get_or b w 0

-- F1, F2: how a node ends depends on the answers in its subtree alone
abbrev pub EndsUnder : Type 0
EndsUnder = (p : List ℕ) → Accepted p → (a b : List ℕ) (v : ℕ) → v < size p → SameUnder p a b v → end_at p a v ≡ end_at p b v

-- F2, F4: so do the marks below it, where both lists are accepted and reach it
abbrev pub MarksBelow : Type 0
MarksBelow = (p : List ℕ) → Accepted p → (a b : List ℕ) (v : ℕ) → SameUnder p a b v → (pass p a).number ≡ 0 → (pass p b).number ≡ 0 →
    (pass_mark p a v ≡ 0 → ⊥) → (pass_mark p b v ≡ 0 → ⊥) → (w : ℕ) → w < size p → Below p v w → pass_mark p a w ≡ pass_mark p b w

-- F1 to F5: answers that differ only in u's subtree and give u the same end: the pass has one number for both, and where it accepts them, the
-- same mark at every node that is not below u
abbrev pub SameElsewhere : Type 0
SameElsewhere = (p : List ℕ) → Accepted p → (a b : List ℕ) (u : ℕ) →
    ((w : ℕ) → w < size p → (Under p u w → ⊥) → get_or a w 0 ≡ get_or b w 0) → end_at p a u ≡ end_at p b u →
    ((pass p a).number ≡ (pass p b).number) × ((pass p a).number ≡ 0 → (w : ℕ) → w < size p → (Below p u w → ⊥) → pass_mark p a w ≡ pass_mark p b w)

-- F1: answers that are not read are free: other answers that have those that are read are accepted too, with the same marks
abbrev pub UnreadFree : Type 0
UnreadFree = (p : List ℕ) → Accepted p → (a b : List ℕ) → (pass p a).number ≡ 0 → ((v : ℕ) → v < size p → Read p a v → get_or a v 0 ≡ get_or b v 0) →
    ((pass p b).number ≡ 0) × ((v : ℕ) → v < size p → pass_mark p b v ≡ pass_mark p a v)
