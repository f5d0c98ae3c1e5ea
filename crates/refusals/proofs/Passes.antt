-- An accepted plan with right lengths passes the tests 1 to 7. Assumes nothing.
use mathlib.Core.Path.{◌≡◌, refl, sym}
use mathlib.Core.Bool.{Bool, true, false, cond, not, ◌&&◌}
use mathlib.Core.List.{List}
use mathlib.Core.Option.{Option, none, some}
use Prim.Native.Nat.{ℕ, ◌*◌, ◌/◌, ◌%◌, ◌≤◌}
use borrow.Author.Tests.{eq-eqb, eqb-true, le-leb}
use lib.Dec.{eqb, ltb, leb}
use lib.ListN.{length, set}
use Rattle.lists.specs.Seq.{all_below}
use Rattle.lists.proofs.Logic.{cases, decided, and-join}
use Rattle.plan.specs.Plan.{kind, size, is_kind}
use Rattle.plan.specs.declared.kinds.Kind.TheVariants.{Task as task}
use Rattle.plan.specs.Check.{Accepted, fit_number}
use Rattle.plan.specs.Made.{Made, made}
use Rattle.plan.specs.Replaced.{replaced_by}
use Rattle.plan.proofs.Main.{check-exact, fit-exact}
use Rattle.event.specs.Event.{event_of, known, applies}
use Rattle.event.specs.Site.{Layout, own}
use Rattle.event.specs.Valid.{event_fault, invalid}
use Rattle.checker.specs.Depths.{depths_number, depths_of}
use Rattle.rewrite.specs.Rewrite.{rewrite_number, rewrite_of}
use Rattle.trees.specs.Numbering.{in_preorder}
use Rattle.trees.specs.Renumber.{renumber_number, renumber_of}
use Rattle.depth_form.specs.Form.{depth_form, form_number}
use Rattle.depth_form.specs.Calls.{to_depths_number, to_depths_of, from_depths_number, from_depths_of}
use Rattle.trees.specs.Tree.{node_count}
use Rattle.template.specs.Repeat.{can_mark, repeated_tree}
use Rattle.template.specs.Call.{times_ok, template_number, repeat_number, repeat_of}
use Rattle.small_plans.specs.Order.{next_plan}
use Rattle.small_plans.specs.Call.{given, next_of}
use Rattle.workload.specs.Call.{load_number, load_of}
use Rattle.guard.specs.Guard.{guard, holds, barred}
use Rattle.guard.specs.Rule.{rule_byte}
use Rattle.guard.specs.Bytes.{encode}
use Rattle.writer.specs.Written.{Filled, filled, written_number, fitted, write_of}
use Rattle.writer.specs.Written.{Refused}
use Rattle.site.specs.Verdict.{report_of, verdict_number}
use Rattle.site.specs.Step.{Stepped, stepped, step_invalid, decide, step_at, hear_of}
use Rattle.site.specs.Verdict.{Invalid}
use Rattle.site.specs.Verdict as verdict
use Rattle.site.proofs.StepLaws.{decision-10, decision-11, decision-0}
use Rattle.row.specs.Row.{heard, hear}
use Rattle.central.specs.Central.{allowed}
use Rattle.central.specs.Rule.{Ruled, ruled, ruling_number, right_size, state_of, rule_invalid, marks_after, notes_after, rule_on, rule_of}
use Rattle.central.specs.Ruling as ruling
use Rattle.pass.specs.Pass.{PassResult, pass_result, pass, pass_number, pass_into}
use Rattle.way.specs.Way.{can_want, way, WayResult, way_result, found_into, way_into}
use Rattle.reach.specs.Impact.{are_marks, new_number, change_number, impact_number, impact_into}
use Rattle.retention.specs.Record.{common_table, frame_ok, table_ok, table_number, Record, record_of, Recorded, recorded, recorded_as}
use Rattle.pass_record.specs.PassRecord.{lent_number, pass_record_number, pass_record_into}
use Rattle.job.specs.Simulation.{state_fits}
use Rattle.simulation.specs.Run.{record_number, record_by_number, record_by_on, run_number, run_of}
use Rattle.refusals.specs.Claim.{Later, message_number, guard_number, rule_number}
use Rattle.refusals.proofs.ChoiceLaws.{choice}
use Rattle.refusals.proofs.PassNumbers.{none-later, later, pass-later}

table-later : (tab : List ℕ) → Later (table_number tab)
unfolding table_number
table-later tab = choice Later (table_ok tab) 0 21 (λ e. none-later) (λ e. later 21 refl)

pub common-right : table_number common_table ≡ 0
unfolding table_number table_ok frame_ok common_table all_below
common-right = refl

pub fault-later : (p : List ℕ) (sited : Bool) (code node : ℕ) → Later (event_fault p sited code node)
unfolding event_fault
fault-later p sited code node =
    choice Later (not (known p code node && sited)) 8 (cond (not (applies p (event_of code node))) 9 0) (λ e. later 8 refl)
    (λ e. choice Later (not (applies p (event_of code node))) 9 0 (λ e. later 9 refl) (λ e. none-later))

pub from-depths-passes : (d b : List ℕ) → form_number d ≡ 0 → length b ≡ length d → (from_depths_of d b).number ≡ 0
unfolding from_depths_of from_depths_number
from-depths-passes d b z e = rw (z, eq-eqb (length b) (length d) e)

module _ (p : List ℕ) (ok : Accepted p) where
  fit : (right : Bool) → right ≡ true → fit_number p right ≡ 0
  fit right e = (fit-exact p right).none.1 (ok, e)

  one : (x : List ℕ) → length x ≡ size p → eqb (length x) (size p) ≡ true
  one x e = eq-eqb (length x) (size p) e

  pub rewrite-passes : (b : List ℕ) → length b ≡ length p → (rewrite_of p b).number ≡ 0
  unfolding rewrite_of rewrite_number
  rewrite-passes b e = rw (fit (eqb (length b) (length p)) (eq-eqb (length b) (length p) e))

  pub renumber-passes : (b : List ℕ) → length b ≡ length p → (renumber_of p b).number ≡ 0
  unfolding renumber_of renumber_number
  renumber-passes b e = rw (fit (eqb (length b) (length p)) (eq-eqb (length b) (length p) e))

  pub load-passes : (s c : ℕ) (b : List ℕ) → length b ≡ 3 * c → (load_of p s c b).number ≡ 0
  unfolding load_of load_number
  load-passes s c b e = rw (fit (eqb (length b) (3 * c)) (eq-eqb (length b) (3 * c) e))

  pub to-depths-passes : (b : List ℕ) → length b ≡ length p → (to_depths_of p b).number ≡ cond (in_preorder p) 0 18
  unfolding to_depths_of to_depths_number
  to-depths-passes b e = rw ((check-exact p).1 ok, eq-eqb (length b) (length p) e) (go (in_preorder p))
    where
      go : (t : Bool) → (replaced_by (cond (not t) 18 0) b (depth_form p)).number ≡ cond t 0 18
      go true = refl
      go false = refl

  repeat-number : (v r : ℕ) (b : List ℕ) → length b ≡ 320 → Later (repeat_number p v r b)
  unfolding repeat_number template_number
  repeat-number v r b e = rw (fit (eqb (length b) 320) (eq-eqb (length b) 320 e))
      (choice Later (not (ltb v (size p))) 8 _ (λ z. later 8 refl)
      (λ z. choice Later (not (can_mark p v)) 23 _ (λ z. later 23 refl)
      (λ z. choice Later (not (times_ok r)) 24 _ (λ z. later 24 refl)
      (λ z. choice Later (not (leb (node_count (repeated_tree p v r)) 160)) 25 0 (λ z. later 25 refl) (λ z. none-later)))))

  pub repeat-later : (v r : ℕ) (b : List ℕ) → length b ≡ 320 → Later (repeat_of p v r b).number
  unfolding repeat_of
  repeat-later v r b e = choice (λ (a : Made). Later a.number) (not (eqb (repeat_number p v r b) 0)) (made (repeat_number p v r b) 0 b) _ (λ z. repeat-number v r b e) (λ z. none-later)

  given-later : (b : List ℕ) → length b ≡ 10 → (o : Option (List ℕ)) → Later (given o b).number
  unfolding given
  given-later b e none = later 26 refl
  given-later b e (some q) = rw (eq-eqb (length b) 10 e) none-later

  pub next-later : (b : List ℕ) → length b ≡ 10 → Later (next_of p b).number
  unfolding next_of
  next-later b e = rw ((check-exact p).1 ok)
      (choice (λ (a : Made). Later a.number) (not (leb (size p) 5)) (made 27 0 b) _ (λ z. later 27 refl) (λ z. given-later b e (next_plan p)))

  pub depths-pass : (d : List ℕ) → length d ≡ size p → (depths_of p d).number ≡ 0
  unfolding depths_of depths_number
  depths-pass d e = rw (fit (eqb (length d) (size p)) (one d e))

  -- with right lengths, 8 and 9 are left
  pub invalid-later : (fits sited : Bool) (code node : ℕ) → fits ≡ true → Later (invalid p fits sited code node)
  unfolding invalid
  invalid-later fits sited code node e = rw (fit fits e) (fault-later p sited code node)

  pub guard-passes : (code node : ℕ) (b : List ℕ) → length (encode (guard p (event_of code node))) ≤ length b → Later (guard_number p code node b)
  unfolding write_of fitted written_number
  guard-passes code node b l =
      let n = invalid p true true code node in
      let x = encode (guard p (event_of code node)) in
      choice (λ (s : Filled). Later (written_number s.answer)) (not (eqb n 0)) (filled b (Refused n)) (fitted x (rule_byte p (event_of code node)) b)
      (λ e. invalid-later true true code node refl) (λ e. rw (le-leb (length x) (length b) l) none-later)

  module _ (code node : ℕ) (row : List ℕ) (long : length row ≡ size p) where
    test-later : Later (step_invalid p code node row)
    unfolding step_invalid
    test-later = invalid-later (eqb (length row) (size p)) true code node (one row long)

    -- of site q
    pub step-later : (q : ℕ) → Later (verdict_number (step_at p q code node row).verdict)
    unfolding step_at decide report_of
    step-later q =
        let n = step_invalid p code node row in
        let P : Stepped → Type 0 = λ s. Later (verdict_number s.verdict) in
        let unmet = not (holds (heard row) (guard p (event_of code node))) in
        choice P (not (eqb n 0)) (stepped row (verdict.Refused (Invalid n))) (decide p q code node row) (λ e. test-later)
        (λ e. choice P (barred p (heard row) (event_of code node)) (decision-10 p q code node row)
        (cond unmet (decision-11 p q code node row) (decision-0 p q code node row)) (λ e. later 10 refl)
        (λ e. choice P unmet (decision-11 p q code node row) (decision-0 p q code node row) (λ e. later 11 refl) (λ e. none-later)))

    pub hear-later : Later (message_number p code node row)
    unfolding hear_of report_of
    hear-later =
        let n = step_invalid p code node row in
        choice (λ (s : Stepped). Later (verdict_number s.verdict)) (not (eqb n 0)) (stepped row (verdict.Refused (Invalid n))) (stepped (hear row code node) verdict.Heard) (λ e. test-later) (λ e. none-later)

  pub central-later : (code node : ℕ) (m k : List ℕ) → length m ≡ size p → length k ≡ size p → Later (rule_number p code node m k)
  unfolding rule_of rule_invalid right_size rule_on ruling_number
  central-later code node m k lm lk =
      let n = rule_invalid p code node m k in
      let e = event_of code node in
      let P : Ruled → Type 0 = λ s. Later (ruling_number s.ruling) in
      choice P (not (eqb n 0)) (ruled m k (ruling.Refused n)) (rule_on p e m k)
      (λ z. invalid-later (right_size p m k) true code node (and-join _ _ (one m lm) (one k lk)))
      (λ z. choice P (allowed p (state_of m k) e) (ruled (marks_after e.code e.node m) (notes_after e.code e.node k) ruling.Allowed) (ruled m k ruling.Forbidden)
      (λ h. none-later) (λ h. none-later))

  pub pass-passes : (a m : List ℕ) → length a ≡ size p → length m ≡ size p → Later (pass_into p a m).number
  unfolding pass_into pass_number
  pass-passes a m la lm =
      rw (fit (eqb (length a) (size p) && eqb (length m) (size p)) (and-join _ _ (one a la) (one m lm)))
      (choice (λ (r : PassResult). Later r.number) (not (eqb (pass p a).number 0)) (pass_result (pass p a).number m) (pass p a) (λ e. pass-later p a) (λ e. pass-later p a))

  -- 8, 9, 13, 14 and 28 are found behind 7
  pub impact-later : (a m : List ℕ) (t x : ℕ) → length a ≡ size p → length m ≡ size p → Later (impact_into p a m t x).number
  unfolding impact_into impact_number change_number new_number pass_number
  impact-later a m t x la lm =
      let n = impact_number p a m t x in
      choice (λ (r : PassResult). Later r.number) (not (eqb n 0)) (pass_result n m) (pass_result 0 (pass p (set a t x)).marks) (λ e. number) (λ e. none-later)
    where
      new : Later (new_number p a t x)
      new = unfold new_number in choice Later (leb x 255) (pass p (set a t x)).number 13 (λ e. pass-later p (set a t x)) (λ e. later 13 refl)

      change : Later (change_number p a m t x)
      change = unfold change_number in
          choice Later (not (eqb (pass p a).number 0)) (pass p a).number _ (λ e. pass-later p a)
          (λ e. choice Later (not (eqb (new_number p a t x) 0)) (new_number p a t x) _ (λ e. new)
          (λ e. choice Later (not (are_marks p a m)) 28 0 (λ e. later 28 refl) (λ e. none-later)))

      number : Later (impact_number p a m t x)
      number = unfold impact_number pass_number in
          rw (fit (eqb (length a) (size p) && eqb (length m) (size p)) (and-join _ _ (one a la) (one m lm)))
          (choice Later (not (ltb t (size p))) 8 _ (λ e. later 8 refl)
          (λ e. choice Later (not (is_kind task (kind p t))) 9 (change_number p a m t x) (λ e. later 9 refl) (λ e. change)))

  -- 8, 29 and 30 are found behind 7
  pub way_later : (v m e : ℕ) (a : List ℕ) → length a ≡ size p → Later (way_into p v m e a).number
  unfolding way_into
  way_later v m e a la =
      let P : WayResult → Type 0 = λ r. Later r.number in
      rw (fit (eqb (length a) (size p)) (one a la))
      (choice P (not (ltb v (size p))) (way_result 8 a) _ (λ z. later 8 refl)
      (λ z. choice P (not (can_want m e)) (way_result 29 a) (found_into (way p v m e) a) (λ z. later 29 refl) (λ z. found (way p v m e))))
    where
      found : (r : Option (List ℕ)) → Later (found_into r a).number
      found none = unfold found_into in later 30 refl
      found (some l) = unfold found_into in none-later

  -- a table's number, and a later one behind it
  behind-table : (tab : List ℕ) (n : ℕ) → Later n → Later (cond (not (eqb (table_number tab) 0)) (table_number tab) n)
  behind-table tab n h = choice Later (not (eqb (table_number tab) 0)) (table_number tab) n (λ e. table-later tab) (λ e. h)

  -- a record that is refused with a later number n, or r
  recorded-later : (n : ℕ) (m c : List ℕ) (r : Record) → Later n → Later (cond (not (eqb n 0)) (recorded n m c) (recorded_as r)).number
  recorded-later n m c r h = choice (λ (s : Recorded). Later s.number) (not (eqb n 0)) (recorded n m c) (recorded_as r) (λ e. h) (λ e. none-later)

  pub pass-record-passes : (tab a m c : List ℕ) → length a ≡ size p → length m ≡ size p → length c ≡ size p → Later (pass_record_into p tab a m c).number
  unfolding pass_record_into pass_record_number lent_number
  pass-record-passes tab a m c la lm lc =
      recorded-later (pass_record_number p tab a m c) m c (record_of p tab (pass p a).marks)
      (behind-table tab _ (rw (fit (eqb (length a) (size p) && eqb (length m) (size p) && eqb (length c) (size p)) (and-join _ _ (and-join _ _ (one a la) (one m lm)) (one c lc))) (pass-later p a)))

  -- a record of any layout has its table's number
  pub record-passes : (lay : Layout) (tab st m c : List ℕ) → length st ≡ lay.rows * size p → length m ≡ size p → length c ≡ size p → (record_by_on p lay tab st m c).number ≡ table_number tab
  unfolding record_by_on record_by_number record_number state_fits
  record-passes lay tab st m c ls lm lc =
      let f = fit (eqb (length st) (lay.rows * size p) && eqb (length m) (size p) && eqb (length c) (size p)) (and-join _ _ (and-join _ _ (eq-eqb (length st) (lay.rows * size p) ls) (one m lm)) (one c lc)) in
      cases (decided (eqb (table_number tab) 0)) (λ t. rw (t, f) (sym (eqb-true (table_number tab) 0 t))) (λ t. rw (t, t))

  pub run-passes : (bs st ns : List ℕ) → length st ≡ size p * size p → length bs % 3 ≡ 0 → length ns ≡ length bs / 3 → (run_of p bs st ns).number ≡ 0
  unfolding run_of run_number state_fits own
  run-passes bs st ns ls lb ln =
      rw (fit (eqb (length st) (size p * size p) && eqb (length bs % 3) 0 && eqb (length ns) (length bs / 3))
      (and-join _ _ (and-join _ _ (eq-eqb (length st) (size p * size p) ls) (eq-eqb (length bs % 3) 0 lb)) (eq-eqb (length ns) (length bs / 3) ln)))
