-- A refused call leaves every lent byte: each call is a choice between what is refused and what is done. Assumes nothing.
use mathlib.Core.Path.{◌≡◌, refl, ap, ◌∙◌}
use mathlib.Core.Bool.{true, cond, not}
use mathlib.Core.List.{List, ◌++◌}
use mathlib.Core.Option.{Option, none, some}
use Prim.Native.Nat.{ℕ, ◌<◌}
use borrow.Author.Tests.{ne_eqb, lt-ltb}
use lib.Dec.{eqb, leb, ltb}
use lib.ListN.{length, drop, set}
use Rattle.lists.specs.Seq.{table}
use Rattle.plan.specs.Check.{check_number, fit_number}
use Rattle.plan.specs.Plan.{size, depth}
use Rattle.plan.specs.Made.{Made, made, in_front}
use Rattle.plan.specs.Replaced.{Replaced, replaced, replaced_by}
use Rattle.event.specs.Event.{event_of}
use Rattle.event.specs.Site.{Layout, own}
use Rattle.event.specs.Valid.{invalid}
use Rattle.checker.specs.Depths.{Checked, checked, depths_number, depths_of}
use Rattle.rewrite.specs.Rewrite.{rewritten, rewrite_number, rewrite_of}
use Rattle.trees.specs.Numbering.{renumbered}
use Rattle.trees.specs.Renumber.{renumber_number, renumber_of}
use Rattle.depth_form.specs.Form.{depth_form, form_plan}
use Rattle.depth_form.specs.Calls.{to_depths_number, to_depths_of, from_depths_number, from_depths_of}
use Rattle.template.specs.Repeat.{repeated}
use Rattle.template.specs.Call.{repeat_number, repeat_of}
use Rattle.small_plans.specs.Order.{next_plan}
use Rattle.small_plans.specs.Call.{given, next_of}
use Rattle.workload.specs.Load.{load}
use Rattle.workload.specs.Call.{load_number, load_of}
use Rattle.guard.specs.Guard.{guard}
use Rattle.guard.specs.Rule.{rule_byte}
use Rattle.guard.specs.Bytes.{encode}
use Rattle.writer.specs.Written.{Filled, filled, written, written_number, fitted, write_of}
use Rattle.writer.specs.Written.{Done, Refused}
use Rattle.site.specs.Verdict.{report_of, verdict_number}
use Rattle.site.specs.Verdict.{Invalid}
use Rattle.site.specs.Verdict as verdict
use Rattle.site.specs.Step.{Stepped, stepped, step_invalid, step_at, hear_of}
use Rattle.site.proofs.StepLaws.{step-leaves}
use Rattle.row.specs.Row.{hear}
use Rattle.central.specs.Central.{allowed}
use Rattle.central.specs.Rule.{Ruled, ruled, ruling_number, state_of, rule_invalid, marks_after, notes_after, rule_on, rule_of}
use Rattle.central.specs.Ruling as ruling
use Rattle.pass.specs.Pass.{PassResult, pass_result, pass, pass_number, pass_into}
use Rattle.reach.specs.Impact.{impact_number, impact_into}
use Rattle.way.specs.Way.{can_want, way, WayResult, way_result, found_into, way_into}
use Rattle.retention.specs.Record.{record_of, Recorded, recorded, recorded_as}
use Rattle.pass_record.specs.PassRecord.{pass_record_number, pass_record_into}
use Rattle.job.specs.Simulation.{step_from, replay_from, numbers_from, end_marks}
use Rattle.job.proofs.StepLaws.{refused-leaves}
use Rattle.simulation.specs.Run.{simulate_of, record_by_number, record_by_on, steps_of, Ran, ran, run_number, run_of}
use Rattle.journal.specs.declared.Entry.{Entry}
use Rattle.journal.specs.Journal.{Kept, keep_of, Undone, undo_of}
use Rattle.journal.specs.Session.{Lent}
use Rattle.journal.proofs.UndoLaws.{keep-refused, undo-refused}
use Rattle.script.specs.Script.{rehearse_into, text_number, text_lines, TextRun, text_run, refused, text_done, lines_into, run_text_into}
use Rattle.refusals.specs.Claim.{guard_number, message_number, simulate_number, rule_number}
use Rattle.refusals.proofs.ChoiceLaws.{choice, Leaving, refusal, tested}

-- a number, and new bytes where it is 0
replaced-leaves : (b : List ℕ) (n : ℕ) (new : List ℕ) → ((replaced_by n b new).number ≡ 0 → ⊥) → (replaced_by n b new).out ≡ b
replaced-leaves b n new = tested (λ (r : Replaced). r.number) (λ r. r.out ≡ b) n (replaced n b) (replaced 0 new) refl (λ e. refl)

pub rewrite-leaves : (p b : List ℕ) → ((rewrite_of p b).number ≡ 0 → ⊥) → (rewrite_of p b).out ≡ b
unfolding rewrite_of
rewrite-leaves p b = replaced-leaves b (rewrite_number p b) (rewritten p)

pub renumber-leaves : (p b : List ℕ) → ((renumber_of p b).number ≡ 0 → ⊥) → (renumber_of p b).out ≡ b
unfolding renumber_of
renumber-leaves p b = replaced-leaves b (renumber_number p b) (renumbered p)

pub to-depths-leaves : (p b : List ℕ) → ((to_depths_of p b).number ≡ 0 → ⊥) → (to_depths_of p b).out ≡ b
unfolding to_depths_of
to-depths-leaves p b = replaced-leaves b (to_depths_number p b) (depth_form p)

pub from-depths-leaves : (d b : List ℕ) → ((from_depths_of d b).number ≡ 0 → ⊥) → (from_depths_of d b).out ≡ b
unfolding from_depths_of
from-depths-leaves d b = replaced-leaves b (from_depths_number d b) (form_plan d)

pub load-leaves : (p : List ℕ) (s c : ℕ) (b : List ℕ) → ((load_of p s c b).number ≡ 0 → ⊥) → (load_of p s c b).out ≡ b
unfolding load_of
load-leaves p s c b = replaced-leaves b (load_number p c b) (load (size p) c s)

pub repeat-leaves : (p : List ℕ) (v r : ℕ) (b : List ℕ) → ((repeat_of p v r b).number ≡ 0 → ⊥) → ((repeat_of p v r b).out ≡ b) × ((repeat_of p v r b).nodes ≡ 0)
unfolding repeat_of
repeat-leaves p v r b =
    tested (λ (a : Made). a.number) (λ a. (a.out ≡ b) × (a.nodes ≡ 0)) (repeat_number p v r b) (made (repeat_number p v r b) 0 b)
    (made 0 (size (repeated p v r)) (in_front (repeated p v r) b)) (refl, refl) (λ e. refl)

given-leaves : (b : List ℕ) (o : Option (List ℕ)) → ((given o b).number ≡ 0 → ⊥) → ((given o b).out ≡ b) × ((given o b).nodes ≡ 0)
unfolding given
given-leaves b none = λ n. (refl, refl)
given-leaves b (some q) =
    choice (λ (a : Made). (a.number ≡ 0 → ⊥) → (a.out ≡ b) × (a.nodes ≡ 0)) (not (eqb (length b) 10)) (made 7 0 b) (made 0 (size q) (in_front q b))
    (λ z n. (refl, refl)) (λ z n. absurd (n refl))

pub next-leaves : (p b : List ℕ) → ((next_of p b).number ≡ 0 → ⊥) → ((next_of p b).out ≡ b) × ((next_of p b).nodes ≡ 0)
unfolding next_of
next-leaves p b =
    choice (λ (a : Made). (a.number ≡ 0 → ⊥) → (a.out ≡ b) × (a.nodes ≡ 0)) (not (eqb (check_number p) 0)) (made (check_number p) 0 b) _ (λ z n. (refl, refl))
    (λ z. choice (λ (a : Made). (a.number ≡ 0 → ⊥) → (a.out ≡ b) × (a.nodes ≡ 0)) (not (leb (size p) 5)) (made 27 0 b) _ (λ z n. (refl, refl))
    (λ z. given-leaves b (next_plan p)))

pub depths-leave : (p d : List ℕ) → ((depths_of p d).number ≡ 0 → ⊥) → (depths_of p d).depths ≡ d
unfolding depths_of
depths-leave p d =
    tested (λ (r : Checked). r.number) (λ r. r.depths ≡ d) (depths_number p d) (checked d (depths_number p d)) (checked (table (depth p) (size p)) 0) refl (λ e. refl)

-- a guard: 1 to 9, then its room
module _ (b : List ℕ) where
  abbrev answered : Filled → ℕ
  answered s = written_number s.answer

  abbrev kept : Filled → Type 0
  kept s = s.buffer ≡ b

  fitted-leaves : (x : List ℕ) (rule : ℕ) → (answered (fitted x rule b) ≡ 0 → ⊥) → kept (fitted x rule b)
  unfolding fitted written_number
  fitted-leaves x rule =
      choice (λ s. (answered s ≡ 0 → ⊥) → kept s) (not (leb (length x) (length b))) (filled b (Refused 7)) (filled (x ++ drop (length x) b) (Done (written (length x) rule)))
      (λ e n. refl) (λ e n. absurd (n refl))

  pub guard-leaves : (p : List ℕ) (code node : ℕ) → (guard_number p code node b ≡ 0 → ⊥) → (write_of p code node b).buffer ≡ b
  unfolding write_of
  guard-leaves p code node =
      let n = invalid p true true code node in
      refusal answered kept n (filled b (Refused n)) (fitted (encode (guard p (event_of code node))) (rule_byte p (event_of code node)) b) refl
      (λ e. fitted-leaves (encode (guard p (event_of code node))) (rule_byte p (event_of code node)))

-- a step, a message and a step of a simulation
pub step_left : (p : List ℕ) (q code node : ℕ) (row : List ℕ) → Leaving (λ (s : Stepped). verdict_number s.verdict) (λ s. s.row ≡ row) (step_at p q code node row)
step_left p q code node row h = step-leaves p q code node row ∙ rw (ne_eqb (verdict_number (step_at p q code node row).verdict) 0 h)

pub hear-leaves : (p : List ℕ) (code node : ℕ) (row : List ℕ) → (message_number p code node row ≡ 0 → ⊥) → (hear_of p code node row).row ≡ row
unfolding hear_of report_of
hear-leaves p code node row =
    let n = step_invalid p code node row in
    tested (λ (s : Stepped). verdict_number s.verdict) (λ s. s.row ≡ row) n (stepped row (verdict.Refused (Invalid n))) (stepped (hear row code node) verdict.Heard) refl (λ e. refl)

pub simulate-leaves : (p : List ℕ) (code node q : ℕ) (st : List ℕ) → (simulate_number p code node q st ≡ 0 → ⊥) → (simulate_of p code node q st).state ≡ st
unfolding simulate_of
simulate-leaves p code node q st = refused-leaves p (own p) st (step_from code node q)

-- the central rule: 1 to 9; what it forbids has number 0 and is left too
module _ (m k : List ℕ) where
  abbrev ruling-is : Ruled → ℕ
  ruling-is s = ruling_number s.ruling

  abbrev both : Ruled → Type 0
  both s = (s.marks ≡ m) × (s.notes ≡ k)

  pub central-leaves : (p : List ℕ) (code node : ℕ) → (rule_number p code node m k ≡ 0 → ⊥) → ((rule_of p code node m k).marks ≡ m) × ((rule_of p code node m k).notes ≡ k)
  unfolding rule_of rule_on ruling_number
  central-leaves p code node =
      let n = rule_invalid p code node m k in
      let e = event_of code node in
      tested ruling-is both n (ruled m k (ruling.Refused n)) (rule_on p e m k) (refl, refl)
      (λ z. choice (λ s. ruling-is s ≡ 0) (allowed p (state_of m k) e) (ruled (marks_after e.code e.node m) (notes_after e.code e.node k) ruling.Allowed) (ruled m k ruling.Forbidden)
      (λ h. refl) (λ h. refl))

-- the pass: 1 to 7, then its own fault
pub pass-leaves : (p a m : List ℕ) → ((pass_into p a m).number ≡ 0 → ⊥) → (pass_into p a m).marks ≡ m
unfolding pass_into
pass-leaves p a m =
    let x = pass_result (pass_number p a m) m in
    let y = pass_result (pass p a).number m in
    refusal (λ (r : PassResult). r.number) (λ r. r.marks ≡ m) (pass_number p a m) x (cond (not (eqb (pass p a).number 0)) y (pass p a)) refl
    (λ e. tested (λ (r : PassResult). r.number) (λ r. r.marks ≡ m) (pass p a).number y (pass p a) refl (λ z. z))

pub impact-leaves : (p a m : List ℕ) (t x : ℕ) → ((impact_into p a m t x).number ≡ 0 → ⊥) → (impact_into p a m t x).marks ≡ m
unfolding impact_into
impact-leaves p a m t x =
    let n = impact_number p a m t x in
    tested (λ (r : PassResult). r.number) (λ r. r.marks ≡ m) n (pass_result n m) (pass_result 0 (pass p (set a t x)).marks) refl (λ e. refl)

pub way-leaves : (p : List ℕ) (v m e : ℕ) (a : List ℕ) → ((way_into p v m e a).number ≡ 0 → ⊥) → (way_into p v m e a).answers ≡ a
unfolding way_into
way-leaves p v m e a =
    let n = fit_number p (eqb (length a) (size p)) in
    let kept : WayResult → Type 0 = λ r. r.answers ≡ a in
    let leaving : WayResult → Type 0 = Leaving (λ r. r.number) kept in
    refusal (λ (r : WayResult). r.number) kept n (way_result n a) _ refl
    (λ z. choice leaving (not (ltb v (size p))) (way_result 8 a) _ (λ e k. refl)
    (λ z. choice leaving (not (can_want m e)) (way_result 29 a) (found_into (way p v m e) a) (λ e k. refl) (λ z. found (way p v m e))))
  where
    found : (r : Option (List ℕ)) → ((found_into r a).number ≡ 0 → ⊥) → (found_into r a).answers ≡ a
    found none z = unfold found_into in refl
    found (some l) z = absurd (z (unfold found_into in refl))

-- a record, and a list of steps
module _ (m c : List ℕ) where
  abbrev pub buffers : Recorded → Type 0
  buffers r = (r.marks ≡ m) × (r.classes ≡ c)

  pub pass-record-leaves : (p tab a : List ℕ) → ((pass_record_into p tab a m c).number ≡ 0 → ⊥) →
      ((pass_record_into p tab a m c).marks ≡ m) × ((pass_record_into p tab a m c).classes ≡ c)
  unfolding pass_record_into
  pass-record-leaves p tab a =
      let n = pass_record_number p tab a m c in
      tested (λ (r : Recorded). r.number) buffers n (recorded n m c) (recorded_as (record_of p tab (pass p a).marks)) (refl, refl) (λ e. refl)

  pub record-leaves : (p : List ℕ) (lay : Layout) (tab st : List ℕ) → Leaving (λ (r : Recorded). r.number) buffers (record_by_on p lay tab st m c)
  unfolding record_by_on
  record-leaves p lay tab st =
      let n = record_by_number p lay tab st m c in
      tested (λ (r : Recorded). r.number) buffers n (recorded n m c) (recorded_as (record_of p tab (end_marks p lay st))) (refl, refl) (λ e. refl)

pub run-leaves : (p bs st ns : List ℕ) → ((run_of p bs st ns).number ≡ 0 → ⊥) → ((run_of p bs st ns).state ≡ st) × ((run_of p bs st ns).numbers ≡ ns)
unfolding run_of
run-leaves p bs st ns =
    let n = run_number p bs st ns in
    tested (λ (r : Ran). r.number) (λ r. (r.state ≡ st) × (r.numbers ≡ ns)) n (ran n st ns)
    (ran 0 (replay_from p (own p) st (steps_of bs)) (numbers_from p (own p) st (steps_of bs))) (refl, refl) (λ e. refl)

-- a text: its number, then its room
pub text-leaves : (t b : List ℕ) → ((run_text_into t b).result.number ≡ 0 → ⊥) → (run_text_into t b).out ≡ b
unfolding run_text_into lines_into
text-leaves t b =
    let n = text_number t in
    let ls = text_lines t in
    let short = text_run (refused 7) b in
    let long = text_run (text_done (length ls)) (ls ++ drop (length ls) b) in
    let answer : TextRun → ℕ = λ r. r.result.number in
    let kept : TextRun → Type 0 = λ r. r.out ≡ b in
    refusal answer kept n (text_run (refused n) b) (cond (ltb (length b) 16384) short long) refl
    (λ e. choice (λ r. (answer r ≡ 0 → ⊥) → kept r) (ltb (length b) 16384) short long (λ e n. refl) (λ e n. absurd (n refl)))

pub printing-leaves : (t b : List ℕ) → length b < 16384 → ((rehearse_into t b).place ≡ 0) × ((rehearse_into t b).buffer ≡ b)
unfolding rehearse_into
printing-leaves t b l = rw (lt-ltb (length b) 16384 l) (refl, refl)

-- a kept step and a take-back, for any layout of rows
module _ (p : List ℕ) (lay : Layout) (row : ℕ → ℕ) (st : List ℕ) (es : List Entry) (k : ℕ) where
  pub keep_left : (code node site : ℕ) → Leaving (λ (a : Kept). verdict_number a.step.verdict) (λ a. (a.step.state ≡ st) × (a.entries ≡ es) × (a.count ≡ k)) (keep_of p lay row st es k code node site)
  keep_left code node site h =
      let e = keep-refused p lay row st es k code node site h in
      (ap (λ (l : Lent). l.state) e, ap (λ (l : Lent). l.entries) e, ap (λ (l : Lent). l.count) e)

  pub undo-left : Leaving (λ (u : Undone). u.number) (λ u. (u.state ≡ st) × (u.count ≡ k)) (undo_of p lay row st es k)
  undo-left h = let e = undo-refused p lay row st es k h in (ap (λ (l : Lent). l.state) e, ap (λ (l : Lent). l.count) e)
