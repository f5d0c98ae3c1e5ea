-- The repeated tree is within the limits of kinds, numbers of children and depth. Assumes nothing.
use mathlib.Core.Path.{◌≡◌, refl, ◌∙◌, ap}
use mathlib.Core.Bool.{true}
use mathlib.Core.List.{List}
use mathlib.Core.Logic.{◌⊎◌, inl, inr}
use Prim.Native.Nat.{ℕ, zero, suc, ◌+◌, ◌≤◌, ◌<◌}
use native.Mathlib.Omega.{arith}
use lib.Dec.{eqb, leb}
use borrow.Author.Tests.{eqb-true, eqb-false, le-leb}
use Rattle.lists.proofs.Logic.{cases, decided, and-join}
use Rattle.plan.specs.Plan.{kind_of, size, kind_byte, children, depth}
use Rattle.plan.specs.Check.{fits}
use Rattle.plan.proofs.AcceptedLaws.{accepted-ordered}
use Rattle.trees.specs.Tree.{Forest, none, tree, trees_of, trees_below}
use Rattle.trees.proofs.TreeLaws.{trees-step}
use Rattle.trees.proofs.SoundLaws.{breadth, Sound, bare, grown, Good, breadth-of, good, good-root, sound-root}
use Rattle.template.specs.Repeat.{beside, times, repeated_below, repeated_tree}
use Rattle.template.specs.Claim.{Template}
use Rattle.template.proofs.StepLaws.{step-marked, step_other}

breadth-beside : (s t : Forest) → breadth (beside s t) ≡ breadth s + breadth t
unfolding beside breadth
breadth-beside none t = omega arith
breadth-beside (tree k b s) t = omega (arith, breadth-beside s t)

-- one tree, r times, is r trees
breadth-times : (r : ℕ) (t : Forest) → breadth t ≡ 1 → breadth (times r t) ≡ r
unfolding times breadth
breadth-times zero t e = refl
breadth-times (suc r) t e = omega (arith, breadth-beside t (times r t), breadth-times r t e)

sound-beside : {d : ℕ} (s t : Forest) → Sound d s → Sound d t → Sound d (beside s t)
unfolding beside
sound-beside none t bare h = h
sound-beside (tree k b s) t (grown x y z l g g') h = grown x y z l g (sound-beside s t g' h)

sound-times : {d : ℕ} (r : ℕ) (t : Forest) → Sound d t → Sound d (times r t)
unfolding times
sound-times zero t h = bare
sound-times (suc r) t h = sound-beside t (times r t) h (sound-times r t h)

module _ {p : List ℕ} {m : ℕ} (h : Template p m) (r : ℕ) (some : 1 ≤ r) (most : r ≤ 32) where
  -- a marked block may have any number of children from 1 to 32
  fits-marked : fits (kind_of (kind_byte p m)) r ≡ true
  unfolding fits kind_of
  fits-marked =
      let few = and-join (leb 1 r) (leb r 32) (le-leb 1 r some) (le-leb r 32 most) in
      cases h.block (λ e. rw e few) (λ b. cases b (λ e. rw e few) (λ b. cases b (λ e. rw e few) (λ e. rw e few)))

  marked-good : Good (depth p m) (kind_byte p m) (repeated_below p m r m)
  marked-good =
      let ok = h.accepted in
      let g = good p ok m h.node in
      let one : breadth (trees_below p m) ≡ 1 = ap breadth (trees-step p (accepted-ordered p ok) m h.node) ∙ breadth-of (kind_byte p) (trees_below p) (children p m) ∙ h.one in
      rw (step-marked p (accepted-ordered p ok) m r h.node) (record {
        low = g.low;
        high = g.high;
        counted = rw (breadth-times r (trees_below p m) one) fits-marked;
        shallow = g.shallow;
        sound = sound-times r (trees_below p m) g.sound;
      })

  step-good : (v : ℕ) → v < size p → (repeated_below p m r v ≡ trees_of (kind_byte p) (repeated_below p m r) (children p v)) ⊎ Good (depth p v) (kind_byte p v) (repeated_below p m r v)
  step-good v l = cases (decided (eqb v m))
      (λ z. let e = eqb-true v m z in inr (rw e marked-good))
      (λ z. inl (step_other p (accepted-ordered p h.accepted) m r v l (eqb-false v m z)))

  pub repeat-sound : Sound 1 (repeated_tree p m r)
  unfolding repeated_tree
  repeat-sound = sound-root (good-root p h.accepted (repeated_below p m r) step-good)
