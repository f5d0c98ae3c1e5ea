-- The classes of a record, where there is room for them and where there is not. Assumes nothing.
use mathlib.Core.Path.{◌≡◌}
use mathlib.Core.Bool.{and-false}
use mathlib.Core.List.{List}
use Prim.Native.Nat.{ℕ, ◌≤◌, ◌<◌}
use borrow.Author.Tests.{eq-eqb, ne_eqb, le-leb, lt-leb}
use lib.ListN.{length}
use Rattle.plan.specs.Plan.{size}
use Rattle.retention.specs.Record.{record_of, classes_into}

module _ (p tab m c : List ℕ) where
  pub classes-are : size p ≤ 160 → length c ≡ size p → classes_into p tab m c ≡ (record_of p tab m).classes
  unfolding classes_into
  classes-are few e = rw (le-leb (size p) 160 few, eq-eqb (length c) (size p) e)

  pub classes-many : 160 < size p → c ≡ classes_into p tab m c
  unfolding classes_into
  classes-many l = rw (lt-leb (size p) 160 l)

  pub classes-other : (length c ≡ size p → ⊥) → c ≡ classes_into p tab m c
  unfolding classes_into
  classes-other n = rw (ne_eqb (length c) (size p) n, and-false)
