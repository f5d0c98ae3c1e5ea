-- The test of the fixed numbering, a turn of each loop at a time. Assumes nothing.
use mathlib.Core.Path.{◌≡◌, refl, sym, ◌∙◌}
use mathlib.Core.Bool.{true, false}
use mathlib.Core.List.{List}
use Prim.Native.Nat.{ℕ, pred, ◌+◌, ◌-◌, ◌≤◌, ◌<◌}
use native.Mathlib.Omega.{arith}
use lib.Dec.{eqb}
use borrow.Author.Tests.{ne_eqb}
use Rattle.lists.specs.Seq.{all_below}
use Rattle.lists.proofs.Below.{below_more, below-stop, below_end}
use Rattle.plan.specs.Plan.{size, parent}
use Rattle.plan.specs.Check.{at_all, Accepted}
use Rattle.plan.proofs.AcceptedLaws.{accepted-ordered}
use Rattle.trees.specs.Numbering.{is_above, follows, in_preorder}
use Rattle.trees.proofs.AboveLaws.{above-up, above-end}

-- the climb from v stands at w: whether u is above w says whether it is above v
pub record Climbing (p : List ℕ) (u v w : ℕ) : Type 0 where
  pub within : w < size p
  pub same : is_above p u v ≡ is_above p u w

module _ {p : List ℕ} (ok : Accepted p) {u v w : ℕ} (h : Climbing p u v w) where
  pub climb-less : u < w → parent p w < w
  climb-less l = ok.below w (omega arith) h.within

  pub climb-turn : u < w → Climbing p u v (parent p w)
  climb-turn l = record { within = omega (arith, climb-less l, h.within); same = h.same ∙ above-up p (accepted-ordered p ok) u w h.within l }

  pub climb-done : w ≤ u → eqb w u ≡ is_above p u v
  climb-done l = sym (h.same ∙ above-end p (accepted-ordered p ok) u w h.within l)

-- the nodes below v are in the fixed numbering
pub record Following (p : List ℕ) (v : ℕ) : Type 0 where
  pub low : 0 < v
  pub within : v ≤ size p
  pub passed : all_below (follows p) v ≡ true

module _ {p : List ℕ} (ok : Accepted p) where
  pub follow-root : Following p 1
  unfolding all_below follows
  follow-root = record { low = omega arith; within = ok.some; passed = refl }

  module _ {v : ℕ} (h : Following p v) (l : v < size p) where
    follows-at : follows p v ≡ is_above p (parent p v) (v - 1)
    unfolding follows
    follows-at = rw (ne_eqb v 0 (λ e. omega (arith, h.low)), (let z : pred v ≡ v - 1 = omega arith in z))

    pub follow-turn : is_above p (parent p v) (v - 1) ≡ true → Following p (v + 1)
    follow-turn e = record { low = omega arith; within = omega arith; passed = below_more (follows p) v h.passed (follows-at ∙ e) }

    pub follow-stop : is_above p (parent p v) (v - 1) ≡ false → false ≡ in_preorder p
    unfolding in_preorder at_all
    follow-stop e = sym (below-stop (follows p) (size p) v l (follows-at ∙ e))

  pub follow-done : {v : ℕ} → Following p v → size p ≤ v → true ≡ in_preorder p
  unfolding in_preorder at_all
  follow-done {v} h l = sym (below_end (follows p) (size p) v h.passed h.within l)
