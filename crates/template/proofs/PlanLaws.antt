-- The repeated plan: accepted where it is not too long, of its tree, in the fixed numbering, and the only such plan. Assumes nothing.
use mathlib.Core.Path.{◌≡◌, refl, sym, ◌∙◌, ap}
use mathlib.Core.Bool.{Bool, true, false, cond}
use mathlib.Core.List.{List}
use Prim.Native.Nat.{ℕ, ◌*◌, ◌≤◌, ◌<◌}
use native.Mathlib.Omega.{arith}
use lib.Dec.{leb}
use lib.ListN.{length}
use borrow.Author.Tests.{leb-true, leb-false}
use Rattle.lists.proofs.Logic.{no_bool}
use Rattle.plan.specs.Plan.{size, kind_byte}
use Rattle.plan.specs.Check.{length_ok, check_number}
use Rattle.plan.proofs.CheckLaws.{length-told}
use Rattle.plan.proofs.Main.{check-exact}
use Rattle.trees.specs.Tree.{node_count}
use Rattle.trees.specs.Numbering.{plan_of, renumbered}
use Rattle.trees.proofs.LaidLaws.{written-length}
use Rattle.trees.proofs.WrittenLaws.{plan-preorder, plan-tree}
use Rattle.trees.proofs.RenumberLaws.{plan-accepted, new-fixed}
use Rattle.template.specs.Repeat.{repeated_below, repeated_tree, repeated}
use Rattle.template.specs.Claim.{Template, IsRepeated}
use Rattle.template.proofs.SoundLaws.{repeat-sound}

-- two bytes a node
repeat-length : (p : List ℕ) (m r : ℕ) → length (repeated p m r) ≡ 2 * node_count (repeated_tree p m r)
unfolding repeated
repeat-length p m r = written-length (repeated_tree p m r) 255 0

pub repeat-size : (p : List ℕ) (m r : ℕ) → size (repeated p m r) ≡ node_count (repeated_tree p m r)
unfolding size
repeat-size p m r = omega (arith, repeat-length p m r)

module _ {p : List ℕ} {m : ℕ} (h : Template p m) (r : ℕ) (some : 1 ≤ r) (most : r ≤ 32) where
  module _ (few : node_count (repeated_tree p m r) ≤ 160) where
    below-few : node_count (repeated_below p m r 0) < 160
    unfolding repeated_tree node_count
    below-few = omega (arith, few)

    pub repeat-right : IsRepeated p m r (repeated p m r)
    unfolding repeated repeated_tree
    repeat-right = record {
      accepted = plan-accepted (kind_byte p 0) (repeated_below p m r 0) below-few (repeat-sound h r some most);
      same = plan-tree (kind_byte p 0) (repeated_below p m r 0) below-few;
      ordered = plan-preorder (kind_byte p 0) (repeated_below p m r 0) below-few;
    }

  too_long : 160 < node_count (repeated_tree p m r) → length_ok (repeated p m r) ≡ false
  too_long l = no_bool (length_ok (repeated p m r)) (λ z. let s = (length-told (repeated p m r) z).few in omega (arith, repeat-size p m r))

  checked : (b : Bool) → leb (node_count (repeated_tree p m r)) 160 ≡ b → check_number (repeated p m r) ≡ cond b 0 1
  unfolding check_number
  checked true e = (check-exact (repeated p m r)).1 (repeat-right (leb-true _ 160 e)).accepted
  checked false e = rw (too_long (leb-false _ 160 e))

  pub repeat-checked : check_number (repeated p m r) ≡ cond (leb (node_count (repeated_tree p m r)) 160) 0 1
  repeat-checked = checked (leb (node_count (repeated_tree p m r)) 160) refl

-- there is no other
pub repeat-only : (p : List ℕ) (m r : ℕ) (q : List ℕ) → IsRepeated p m r q → q ≡ repeated p m r
unfolding repeated renumbered
repeat-only p m r q h = sym (new-fixed q h.accepted h.ordered) ∙ ap plan_of h.same
