-- Tests as the code makes them: what an answer says, and a loop that tries a test node by node. Assumes nothing.
use mathlib.Core.Path.{◌≡◌, sym, ◌∙◌, ap}
use mathlib.Core.Bool.{Bool, true, false, ◌&&◌, not}
use mathlib.Core.List.{List}
use Prim.Native.Nat.{ℕ, ◌+◌, ◌≤◌, ◌<◌}
use native.Mathlib.Nat.{le_antisymm}
use native.Mathlib.Numerals.{add-one}
use native.Mathlib.Omega.{arith}
use borrow.Author.Tests.{not-true, not-false}
use Rattle.lists.specs.Seq.{all_below}
use Rattle.plan.specs.Plan.{size, parent}
use Rattle.plan.specs.Check.{at_all, Ordered}
use Rattle.plan.proofs.CheckLaws.{Shaped, length-told, below-told}

-- an answer r of the code says that its test passed, or failed
pub passed : (r t : Bool) → r ≡ t → not r ≡ false → t ≡ true
passed r t e h = sym e ∙ not-false r h

pub failed : (r t : Bool) → r ≡ t → not r ≡ true → t ≡ false
failed r t e h = sym e ∙ not-true r h

pub ordered-by : (p : List ℕ) → Shaped p → Ordered p
ordered-by p s = let l = length-told p s.long in record { some = l.some; few = l.few; below = below-told p s.parents }

module _ (ok : List ℕ → ℕ → Bool) (p : List ℕ) (v : ℕ) where
  -- a loop that runs on behind a failed test: b says whether each node below v passed
  pub test-and : (b r : Bool) → b ≡ all_below (ok p) v → r ≡ ok p v → (b && r) ≡ all_below (ok p) (v + 1)
  unfolding all_below
  test-and b r i e = rw (add-one, i, e)

  pub test-all : (b : Bool) → b ≡ all_below (ok p) v → v ≤ size p → size p ≤ v → b ≡ at_all ok p
  unfolding at_all
  test-all b i l m = i ∙ ap (all_below (ok p)) (le_antisymm l m)

-- a loop over an ordered plan's nodes stands at v, whose parent is u; S is what it has done so far
pub record Turn (S : Type 0) (p : List ℕ) (v u : ℕ) : Type 0 where
  pub ordered : Ordered p
  pub so-far : S
  pub first : 0 < v
  pub within : v < size p
  pub up : u ≡ parent p v

pub turn_below : {S : Type 0} {p : List ℕ} {v u : ℕ} → Turn S p v u → u < v
turn_below {v = v} t = let b = t.ordered.below v t.first t.within in omega (arith, t.up)
