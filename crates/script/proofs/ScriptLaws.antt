-- A text's number, test by test, what is printed and how long it is, and the two calls. Assumes nothing.
use mathlib.Core.Path.{◌≡◌, sym, ◌∙◌, ap}
use mathlib.Core.Bool.{true, false}
use mathlib.Core.List.{List, ◌++◌}
use Prim.Native.Nat.{ℕ, ◌+◌, ◌*◌, ◌/◌, ◌≤◌, ◌<◌}
use native.Mathlib.Nat.{mul-div_cancel_left, zero-add}
use native.Mathlib.Omega.{arith}
use borrow.Author.Tests.{ne_eqb, eqb-true, eqb-false, ltb-false, lt-ltb, le-ltb}
use lib.Dec.{eqb, ltb}
use lib.ListN.{length, take, drop, length-append}
use Rattle.std.specs.Prelude.{Result, Ok, Err, IsErrAnd}
use Rattle.fault.specs.declared.Fault.{Fault}
use Rattle.fault.specs.Number.{fault_number}
use Rattle.lists.specs.Put.{Put}
use Rattle.lists.proofs.Logic.{cases, decided}
use Rattle.lists.proofs.PutLaws.{put_front_lem, put-append}
use Rattle.lists.proofs.Parts.{back_is, back-length}
use Rattle.plan.specs.Plan.{size}
use Rattle.plan.specs.Check.{check_number}
use Rattle.plan.proofs.Main.{check-exact}
use Rattle.event.specs.Site.{own}
use Rattle.retention.specs.Record.{table_number, record_of}
use Rattle.job.specs.Simulation.{Step, zeros, replay, numbers_from, end_marks}
use Rattle.simulation.specs.Run.{steps_of}
use Rattle.text.specs.Text.{body, step_lines, well_formed, plan_bytes, step_bytes}
use Rattle.text.specs.Calls.{Printing, printing}
use Rattle.text.proofs.CallLaws.{step-bytes, steps-few}
use Rattle.script.specs.Script.{number_line, number_lines, node_lines, simulation_lines, table_of, text_number, text_lines, number_or_lines, printed, rehearse_into, TextRun, text_run, text_result, refused, text_done, lines_into, run_text_into}
use Rattle.script.specs.Script.{TextResult}
use Rattle.script.proofs.LineLaws.{number-length, numbers-length, nodes-length}
use Rattle.script.proofs.SimulationLaws.{RunTold, numbers-count, frames-count}

-- a call that passed, or that hands on a fault
pub refused-is : (r : Result ℕ Fault) (e : Fault) → IsErrAnd r (λ y. y ≡ e) → text_result r ≡ refused (fault_number e)
refused-is (Ok x) e h = absurd h
refused-is (Err f) e h = ap (λ y. refused (fault_number y)) h

-- the line of a number alone, or lines
module _ (n : ℕ) (ls : List ℕ) where
  number-alone : (n ≡ 0 → ⊥) → number_or_lines n ls ≡ number_line n
  unfolding number_or_lines
  number-alone h = rw (ne_eqb n 0 h)

  lines-alone : n ≡ 0 → number_or_lines n ls ≡ ls
  unfolding number_or_lines
  lines-alone e = rw e

  -- a call with a buffer b
  lines-refused : (b : List ℕ) {r : ℕ} → r ≡ n → (r ≡ 0 → ⊥) → lines_into n ls b ≡ text_run (refused r) b
  unfolding lines_into
  lines-refused b e h = rw (ne_eqb n 0 (λ z. h (e ∙ z)), e)

  lines-short : (b : List ℕ) → n ≡ 0 → length b < 16384 → lines_into n ls b ≡ text_run (refused 7) b
  unfolding lines_into
  lines-short b e l = rw (e, lt-ltb (length b) 16384 l)

  lines-passed : (b : List ℕ) {b' : List ℕ} {w : ℕ} → n ≡ 0 → length ls ≤ 16384 → 16384 ≤ length b → Put ls b 0 b' w → lines_into n ls b ≡ text_run (text_done w) b'
  unfolding lines_into
  lines-passed b e f l h =
      let g : length ls ≤ length b = omega arith in
      rw (e, le-ltb (length b) 16384 l, h.place, h.held, zero-add, put_front_lem ls b g)

  -- what such a call tells of a buffer that is long enough
  module _ (b : List ℕ) {b' : List ℕ} {r : TextResult} (h : lines_into n ls b ≡ text_run r b') (l : 16384 ≤ length b) where
    told-refused : (r.number ≡ 0 → ⊥) → (r.number ≡ n) × (b' ≡ b)
    unfolding lines_into
    told-refused f = cases (decided (eqb n 0))
        (λ e. let q = rw (e, le-ltb (length b) 16384 l) at h in absurd (f (sym (ap (λ (x : TextRun). x.result.number) q))))
        (λ e. let q = rw e at h in (sym (ap (λ (x : TextRun). x.result.number) q), sym (ap (λ (x : TextRun). x.out) q)))

    told-passed : r.number ≡ 0 → (n ≡ 0) × (r.length ≡ length ls) × (b' ≡ ls ++ drop (length ls) b)
    unfolding lines_into
    told-passed z = cases (decided (eqb n 0))
        (λ e. let q = rw (e, le-ltb (length b) 16384 l) at h in
        (eqb-true n 0 e, sym (ap (λ (x : TextRun). x.result.length) q), sym (ap (λ (x : TextRun). x.out) q)))
        (λ e. let q = rw e at h in absurd (eqb-false n 0 e (ap (λ (x : TextRun). x.result.number) q ∙ z)))

-- the lines of a plan
module _ (tab p : List ℕ) (ts : List Step) where
  numbers-all : length (number_lines (numbers_from p (own p) (zeros p (own p)) ts)) ≡ 3 * length ts
  numbers-all = numbers-length (numbers_from p (own p) (zeros p (own p)) ts) ∙ ap (λ n. 3 * n) (numbers-count p (zeros p (own p)) ts)

  lines_long : length (simulation_lines tab p ts) ≡ 3 * length ts + 9 * size p
  unfolding simulation_lines
  lines_long = rw length-append (omega (arith, numbers-all, nodes-length p (record_of p tab (end_marks p (own p) (replay p (own p) ts)))))

  -- m steps at most
  plan-fits : check_number p ≡ 0 → (m : ℕ) → length ts ≤ m → (0 < length (simulation_lines tab p ts)) × (length (simulation_lines tab p ts) ≤ 160 * 9 + 3 * m)
  plan-fits z m l = let ok = (check-exact p).0 z in omega (arith, lines_long, ok.some, ok.few)

-- a text's number, test by test
module _ (t : List ℕ) where
  pub text-malformed : well_formed t ≡ false → 15 ≡ text_number t
  unfolding text_number
  text-malformed f = rw f

  module _ (f : well_formed t ≡ true) where
    pub text-table : (table_number (table_of t) ≡ 0 → ⊥) → table_number (table_of t) ≡ text_number t
    unfolding text_number
    text-table h = rw (f, ne_eqb (table_number (table_of t)) 0 h)

    pub text-plan : table_number (table_of t) ≡ 0 → check_number (plan_bytes t) ≡ text_number t
    unfolding text_number
    text-plan z = rw (f, z)

  -- none fails
  module _ (zero : text_number t ≡ 0) where
    passed-formed : well_formed t ≡ true
    passed-formed = cases (decided (well_formed t)) (λ f. f) (λ f. absurd (omega (arith, text-malformed f)))

    passed-plan : check_number (plan_bytes t) ≡ 0
    passed-plan = cases (decided (eqb (table_number (table_of t)) 0))
        (λ e. text-plan passed-formed (eqb-true (table_number (table_of t)) 0 e) ∙ zero)
        (λ e. let h = eqb-false (table_number (table_of t)) 0 e in absurd (h (text-table passed-formed h ∙ zero)))

    steps-most : length (steps_of (step_bytes t)) ≤ 32768 / 7
    steps-most =
        let e : length (steps_of (step_bytes t)) ≡ length (step_lines (body t))
        = frames-count (step_bytes t) ∙ ap (λ n. n / 3) (step-bytes t) ∙ mul-div_cancel_left (length (step_lines (body t))) (omega arith) in
        omega (arith, e, steps-few t passed-formed)

    lines_fit : (0 < length (text_lines t)) × (length (text_lines t) ≤ 160 * 9 + 3 * (32768 / 7))
    unfolding text_lines
    lines_fit = plan-fits (table_of t) (plan_bytes t) (steps_of (step_bytes t)) passed-plan (32768 / 7) steps-most

  pub text-fits : (0 < length (printed t)) × (length (printed t) ≤ 160 * 9 + 3 * (32768 / 7))
  unfolding printed
  text-fits = cases (decided (eqb (text_number t) 0))
      (λ e. let z = eqb-true (text_number t) 0 e in rw (lines-alone (text_number t) (text_lines t) z) (lines_fit z))
      (λ e. rw (number-alone (text_number t) (text_lines t) (eqb-false (text_number t) 0 e)) (omega (arith, number-length (text_number t))))

-- the two calls: b is the buffer before, b' afterwards
module _ (t b : List ℕ) where
  pub text-refused : {r : ℕ} → r ≡ text_number t → (r ≡ 0 → ⊥) → run_text_into t b ≡ text_run (refused r) b
  unfolding run_text_into
  text-refused e h = lines-refused (text_number t) (text_lines t) b e h

  pub rehearse-short : length b < 16384 → rehearse_into t b ≡ printing 0 b
  unfolding rehearse_into
  rehearse-short l = rw (lt-ltb (length b) 16384 l)

  -- what the first told, printed by the second
  module _ {b' : List ℕ} {r : TextResult} (h : run_text_into t b ≡ text_run r b') where
    run-lines : lines_into (text_number t) (text_lines t) b ≡ text_run r b'
    unfolding run_text_into
    run-lines = h

    pub run_length : r.length ≤ 15483
    unfolding lines_into
    run_length = cases (decided (eqb (text_number t) 0))
        (λ e. cases (decided (ltb (length b) 16384))
        (λ s. let q = rw (e, s) at run-lines in omega (arith, ap (λ (x : TextRun). x.result.length) q))
        (λ s. let q = rw (e, s) at run-lines in omega (arith, ap (λ (x : TextRun). x.result.length) q, lines_fit t (eqb-true (text_number t) 0 e))))
        (λ e. let q = rw e at run-lines in omega (arith, ap (λ (x : TextRun). x.result.length) q))

    module _ (l : 16384 ≤ length b) where
      pub rehearse-refused : (r.number ≡ 0 → ⊥) → {b'' : List ℕ} {w : ℕ} → Put (number_line r.number) b' 0 b'' w → rehearse_into t b ≡ printing w b''
      unfolding rehearse_into printed
      rehearse-refused f q =
          let told = told-refused (text_number t) (text_lines t) b run-lines l f in
          let alone = number-alone (text_number t) (text_lines t) (λ z. f (told.0 ∙ z)) in
          let p = rw (told.0, told.1) at q in
          let g : length (number_line (text_number t)) ≤ length b = omega (arith, number-length (text_number t)) in
          rw (le-ltb (length b) 16384 l, alone, p.place, p.held, zero-add, put_front_lem (number_line (text_number t)) b g)

      pub rehearse-passed : r.number ≡ 0 → rehearse_into t b ≡ printing r.length b'
      unfolding rehearse_into printed
      rehearse-passed z =
          let told = told-passed (text_number t) (text_lines t) b run-lines l z in
          rw (le-ltb (length b) 16384 l, lines-alone (text_number t) (text_lines t) told.0, told.1, told.2)

-- what is printed stands within the buffer
pub rehearse-within : (t b : List ℕ) {b' : List ℕ} {w : ℕ} → rehearse_into t b ≡ printing w b' → w ≤ length b
unfolding rehearse_into
rehearse-within t b {b'} {w} h = cases (decided (ltb (length b) 16384))
    (λ e. let q = rw e at h in omega (arith, ap (λ (r : Printing). r.place) q))
    (λ e. let q = rw e at h in omega (arith, ap (λ (r : Printing). r.place) q, text-fits t, ltb-false (length b) 16384 e))

-- what the simulation's call told, as the plan's lines
module _ {p bs : List ℕ} {n : ℕ} {z y : List ℕ} {r : ℕ} {st ns : List ℕ} (h : RunTold p bs n z y r st ns) where
  pub plan-refused : (tab b : List ℕ) → (r ≡ 0 → ⊥) → lines_into (check_number p) (simulation_lines tab p (steps_of bs)) b ≡ text_run (refused r) b
  plan-refused tab b f = lines-refused (check_number p) (simulation_lines tab p (steps_of bs)) b h.number f

  pub state-long : length (take (n * n) (st ++ drop (n * n) z)) ≡ size p * size p
  state-long = sym (back-length h.state-back) ∙ rw h.count

  pub numbers-place : {b b' : List ℕ} {w : ℕ} → Put (number_lines (take (length bs / 3) (ns ++ drop (length bs / 3) y))) b 0 b' w → w ≡ 3 * (length bs / 3)
  numbers-place q = omega (arith, q.place, numbers-length (take (length bs / 3) (ns ++ drop (length bs / 3) y)), back-length h.numbers-back)

  module _ (zero : r ≡ 0) where
    pub told-accepted : check_number p ≡ 0
    told-accepted = sym h.number ∙ zero

    pub plan-short : (tab b : List ℕ) → length b < 16384 → lines_into (check_number p) (simulation_lines tab p (steps_of bs)) b ≡ text_run (refused 7) b
    plan-short tab b l = lines-short (check_number p) (simulation_lines tab p (steps_of bs)) b told-accepted l

    pub plan-passed : (tab b : List ℕ) {b' b'' : List ℕ} {w w' : ℕ} → length bs ≤ 14043 → 16384 ≤ length b →
        Put (number_lines (take (length bs / 3) (ns ++ drop (length bs / 3) y))) b 0 b' w →
        Put (node_lines p (record_of p tab (end_marks p (own p) (take (n * n) (st ++ drop (n * n) z))))) b' w b'' w' →
        lines_into (check_number p) (simulation_lines tab p (steps_of bs)) b ≡ text_run (text_done w') b''
    unfolding simulation_lines
    plan-passed tab b few l q q' =
        let ns-are = back_is h.numbers-back ∙ h.numbers told-accepted in
        let st-is = back_is h.state-back ∙ h.state told-accepted in
        let short = plan-fits tab p (steps_of bs) told-accepted 4681 (omega (arith, frames-count bs)) in
        lines-passed (check_number p) (simulation_lines tab p (steps_of bs)) b told-accepted (omega (arith, short)) l
        (put-append _ _ b 0 (rw ns-are at q) (rw st-is at q'))
