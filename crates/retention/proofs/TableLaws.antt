-- The class of a node by its kind's byte, and the tests of a table in their order. Assumes nothing.
use mathlib.Core.Path.{◌≡◌, sym, ◌∙◌}
use mathlib.Core.Bool.{true, false, and-false}
use mathlib.Core.List.{List}
use Prim.Native.Nat.{ℕ, ◌+◌, ◌*◌, ◌<◌}
use lib.Dec.{leb}
use lib.ListN.{length, get_or}
use borrow.Author.Tests.{eq-eqb, ne_eqb}
use Rattle.lists.specs.Seq.{all_below}
use Rattle.lists.proofs.Below.{below-stop}
use Rattle.lists.proofs.Logic.{no_bool}
use Rattle.plan.specs.Plan.{kind_number, is_kind, kind}
use Rattle.plan.specs.declared.kinds.Kind.TheVariants.{Task}
use Rattle.plan.proofs.KindLaws.{same_kind}
use Rattle.retention.specs.Record.{frame_ok, table_ok, table_number, class_of, counts_as, class}

-- the class of a block and of a task
module _ (p tab m : List ℕ) (v : ℕ) where
  pub class-block : (kind p v ≡ Task → ⊥) → 0 ≡ class p tab m v
  unfolding class
  class-block n = rw (no_bool (is_kind Task (kind p v)) (λ e. n (same_kind Task (kind p v) e)))

  -- x is the mark as which it counts, y the class that was read
  pub class-task : kind p v ≡ Task → (x j y : ℕ) → x ≡ counts_as p m v → j ≡ x → y ≡ get_or tab (2 * j + 1) 0 → y ≡ class p tab m v
  unfolding class class_of is_kind kind_number
  class-task e x j y g h q = rw (e, q, h, g)

-- a table's tests, in their order
module _ (tab : List ℕ) where
  pub frame-other : (i x j : ℕ) → x ≡ get_or tab (2 * i) 0 → j ≡ x → (j ≡ i → ⊥) → false ≡ frame_ok tab i
  unfolding frame_ok
  frame-other i x j e f n = rw (ne_eqb (get_or tab (2 * i) 0) i (λ z. n (f ∙ e ∙ z)))

  pub frame-class : (i x j y : ℕ) → x ≡ get_or tab (2 * i) 0 → j ≡ x → j ≡ i → y ≡ get_or tab (2 * i + 1) 0 → leb y 3 ≡ frame_ok tab i
  unfolding frame_ok
  frame-class i x j y e f g h = rw (eq-eqb (get_or tab (2 * i) 0) i (sym (f ∙ e) ∙ g), h)

  refused : table_ok tab ≡ false → 21 ≡ table_number tab
  unfolding table_number
  refused h = rw h

  pub table-long : (length tab ≡ 12 → ⊥) → 21 ≡ table_number tab
  unfolding table_ok
  table-long n = refused (rw (ne_eqb (length tab) 12 n))

  pub table-first : (get_or tab 1 0 ≡ 0 → ⊥) → 21 ≡ table_number tab
  unfolding table_ok
  table-first n = refused (rw (ne_eqb (get_or tab 1 0) 0 n, and-false))

  pub table-frame : (i : ℕ) → i < 6 → frame_ok tab i ≡ false → 21 ≡ table_number tab
  unfolding table_ok
  table-frame i l h = refused (rw (below-stop (frame_ok tab) 6 i l h, and-false))

  pub table-right : length tab ≡ 12 → get_or tab 1 0 ≡ 0 → all_below (frame_ok tab) 6 ≡ true → 0 ≡ table_number tab
  unfolding table_ok table_number
  table-right l z h = rw (eq-eqb (length tab) 12 l, eq-eqb (get_or tab 1 0) 0 z, h)
