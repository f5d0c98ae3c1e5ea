-- What the reader told of a text: its table's number, and its plan and steps in the fronts of their buffers. Assumes nothing.
use mathlib.Core.Path.{◌≡◌, refl, sym, ◌∙◌, ap}
use mathlib.Core.Bool.{true, false, and-false}
use mathlib.Core.List.{List}
use Prim.Native.Nat.{ℕ, ◌*◌, ◌%◌, ◌≤◌, ◌<◌}
use native.Mathlib.Nat.{mul-mod_right}
use native.Mathlib.Omega.{arith}
use borrow.Author.Tests.{ne_eqb, eqb-true, eqb-false, lt-leb}
use lib.Dec.{eqb, leb}
use lib.ListN.{length, take}
use Rattle.lists.proofs.Logic.{cases, decided}
use Rattle.plan.specs.Check.{length_ok, check_number}
use Rattle.plan.proofs.CheckLaws.{check-1}
use Rattle.retention.specs.Record.{common_table, table_ok, table_number}
use Rattle.simulation.specs.Run.{steps_of}
use Rattle.text.specs.Text.{lines, has_table, body_at, table_bytes, plan_bytes, step_bytes}
use Rattle.text.specs.Calls.{in_front}
use Rattle.text.specs.declared.Counts.{Counts}
use Rattle.text.proofs.TextLaws.{table_at, table-lines, no-table-at}
use Rattle.text.proofs.CallLaws.{no_table, front-is, front-all, table-bytes, ReadTold}
use Rattle.script.specs.Script.{simulation_lines, table_of, text_number, text_lines, text_run, refused, lines_into, run_text_into, read_number}
use Rattle.script.specs.Script.{TextResult}
use Rattle.script.proofs.ScriptLaws.{text-refused, text-table, text-plan}

-- the table that was read into the common one: h is its bytes in the text, r the number that the code tells
pub record TableTold (t : List ℕ) (r : ℕ) (tab : List ℕ) : Type 0 where
  pub number : r ≡ table_number (table_of t)
  pub same : table_number (table_of t) ≡ 0 → tab ≡ table_of t

module _ (h : ℕ) (tab : List ℕ) where
  pub read_none : h ≡ 0 → table_number tab ≡ read_number h tab
  unfolding read_number
  read_none e = rw e

  pub read-six : h ≡ 33 → table_number tab ≡ read_number h tab
  unfolding read_number
  read-six e = rw e

  pub read-other : (h ≡ 0 → ⊥) → (h ≡ 33 → ⊥) → 21 ≡ read_number h tab
  unfolding read_number
  read-other m n = rw (ne_eqb h 0 m, ne_eqb h 33 n)

common-long : length common_table ≡ 12
unfolding common_table
common-long = refl

other_length : (tab : List ℕ) → (length tab ≡ 12 → ⊥) → table_number tab ≡ 21
unfolding table_number table_ok
other_length tab n = rw (ne_eqb (length tab) 12 n)

module _ (t : List ℕ) (h : ℕ) (e : h ≡ body_at t) where
  -- no table
  common-told : has_table t ≡ false → TableTold t (read_number h (in_front (table_bytes t) common_table)) (in_front (table_bytes t) common_table)
  unfolding table_of
  common-told f =
      let z : h ≡ 0 = e ∙ no-table-at t f in
      let x = sym (no_table t e z common_table) in
      record { number = sym (read_none h _ z) ∙ rw (x, f); same = λ u. rw f x }

  -- a table of six lines, and another
  own-told : has_table t ≡ true → TableTold t (read_number h (in_front (table_bytes t) common_table)) (in_front (table_bytes t) common_table)
  unfolding table_of
  own-told f =
      let l : length (table_bytes t) ≡ 2 * length (lines 2 t) = table-bytes t ∙ rw (table-lines t f) in
      let a = table_at t f in
      cases (decided (eqb h 33))
      (λ y. let m : length (table_bytes t) ≡ 12 = omega (arith, eqb-true h 33 y) in
      let x : in_front (table_bytes t) common_table ≡ table_bytes t = front-all (table_bytes t) common_table (m ∙ sym common-long) in
      record { number = sym (read-six h _ (eqb-true h 33 y)) ∙ rw (x, f); same = λ u. rw f x })
      (λ y. let n = other_length (table_bytes t) (λ z. eqb-false h 33 y (omega arith)) in
      record { number = sym (read-other h _ (λ z. omega arith) (eqb-false h 33 y)) ∙ rw (f, n); same = λ u. absurd (let v = rw f at u in omega arith) })

  pub table-told : TableTold t (read_number h (in_front (table_bytes t) common_table)) (in_front (table_bytes t) common_table)
  table-told = cases (decided (has_table t)) own-told common-told

-- the parts of two buffers in which the plan's bytes and the steps' stand
pub record Parts (t tab : List ℕ) (c : Counts) (y z : List ℕ) : Type 0 where
  pub plan-length : 2 * c.plan ≡ length (take (2 * c.plan) y)
  pub steps-length : 3 * c.steps ≡ length (take (3 * c.steps) z)
  pub plan-few : 2 * c.plan ≤ 320
  pub steps-few : 3 * c.steps ≤ 14043
  pub right : table_number tab ≡ 0
  pub number : check_number (take (2 * c.plan) y) ≡ text_number t
  pub same : simulation_lines tab (take (2 * c.plan) y) (steps_of (take (3 * c.steps) z)) ≡ text_lines t

module _ {t tab : List ℕ} {c : Counts} {y z : List ℕ} (h : Parts t tab c y z) where
  pub steps-whole : length (take (3 * c.steps) z) % 3 ≡ 0
  steps-whole = rw (← h.steps-length) (mul-mod_right 3 c.steps)

  pub parts-run : (b : List ℕ) {b' : List ℕ} {r : TextResult} →
      lines_into (check_number (take (2 * c.plan) y)) (simulation_lines tab (take (2 * c.plan) y) (steps_of (take (3 * c.steps) z))) b ≡ text_run r b' → run_text_into t b ≡ text_run r b'
  unfolding run_text_into
  parts-run b q = rw (h.number, h.same) at q

-- what the reader told: x, y and z are the buffers before, x the common table; r is the table's number
module _ {t x y z : List ℕ} {c : Counts} {x' y' z' : List ℕ} (h : ReadTold t x y z c x' y' z') (lx : x ≡ common_table) {r : ℕ} (e : r ≡ read_number c.head x') where
  table : TableTold t r x'
  table =
      let f : x' ≡ in_front (table_bytes t) common_table = h.table ∙ rw lx in
      rw (e, f) (table-told t c.head h.head)

  pub table-refused : (b : List ℕ) → (r ≡ 0 → ⊥) → run_text_into t b ≡ text_run (refused r) b
  table-refused b f = text-refused t b (table.number ∙ text-table t h.formed (λ z. f (table.number ∙ z))) f

  module _ (zero : r ≡ 0) where
    right : table_number (table_of t) ≡ 0
    right = sym table.number ∙ zero

    pub many-refused : (b : List ℕ) → 160 < c.plan → run_text_into t b ≡ text_run (refused 1) b
    unfolding length_ok
    many-refused b l =
        let f : leb (length (plan_bytes t)) 320 ≡ false = lt-leb (length (plan_bytes t)) 320 (omega (arith, h.plan-long)) in
        text-refused t b (check-1 (plan_bytes t) (rw (f, and-false)) ∙ text-plan t h.formed right) (λ z. omega arith)

    module _ (few : c.plan ≤ 160) (ly : 320 ≡ length y) (lz : 14043 ≡ length z) where
      plan-is : take (2 * c.plan) y' ≡ plan_bytes t
      plan-is = ap (take (2 * c.plan)) h.plan ∙ front-is (plan_bytes t) y (2 * c.plan) h.plan-long (omega arith)

      steps-are : take (3 * c.steps) z' ≡ step_bytes t
      steps-are = ap (take (3 * c.steps)) h.steps ∙ front-is (step_bytes t) z (3 * c.steps) h.steps-long (omega (arith, h.few))

      pub parts : Parts t x' c y' z'
      unfolding text_lines
      parts =
          record {
            plan-length = sym (ap length plan-is ∙ h.plan-long);
            steps-length = sym (ap length steps-are ∙ h.steps-long);
            plan-few = omega arith;
            steps-few = omega (arith, h.few);
            right = rw (table.same right) right;
            number = rw plan-is (text-plan t h.formed right);
            same = rw (plan-is, steps-are, table.same right);
          }
