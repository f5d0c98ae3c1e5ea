-- The calls behind the preparation: refused by the check, refused for a length, and done on the plain plan with its tables. Assumes nothing.
use mathlib.Core.Path.{◌≡◌, refl, sym, ◌∙◌, ap, subst}
use mathlib.Core.Bool.{Bool, true, false, ◌&&◌}
use mathlib.Core.List.{List}
use Prim.Native.Nat.{ℕ, ◌*◌, ◌≤◌, ◌<◌}
use native.Mathlib.Omega.{arith}
use borrow.Author.Tests.{ne_eqb, eq-eqb, eqb-true, eqb-false, ltb-true, lt-ltb, le-leb, leb-true}
use lib.Dec.{eqb, ltb, leb}
use lib.ListN.{length, take, set}
use lib.Seq.{set_out}
use Rattle.lists.proofs.Logic.{cases, decided, and_left, and_right, and-join}
use Rattle.plan.specs.Plan.{size}
use Rattle.plan.specs.Check.{fit_number}
use Rattle.plan.proofs.Main.{check-exact, fit-exact}
use Rattle.event.specs.Event.{is_code, known}
use Rattle.event.specs.Valid.{event_fault, Valid}
use Rattle.event.specs.Site.{Layout}
use Rattle.event.proofs.ValidLaws.{fault-unknown, invalid-fit, invalid-fault}
use Rattle.retention.specs.Record.{table_number, recorded, classes_into}
use Rattle.site.specs.Verdict.{Invalid}
use Rattle.site.specs.Verdict.{Verdict}
use Rattle.site.specs.Verdict.{Refused}
use Rattle.site.specs.Verdict.{verdict_number}
use Rattle.site.specs.Step.{Stepped, stepped, step_invalid, decide, step_at}
use Rattle.site.proofs.StepLaws.{step-tested, step-valid, step-invalid}
use Rattle.job.specs.Simulation.{step_by, Simulated, simulated, state_fits, simulate, end_marks}
use Rattle.job.proofs.StepLaws.{unfit-refused}
use Rattle.layout.specs.Layout.{via, layout_by}
use Rattle.layout.proofs.StepLaws.{simulate-event, simulate-message, happen-refused, tell-refused}
use Rattle.simulation.specs.Run.{record_number, record_by_on}
use Rattle.simulation.proofs.RecordLaws.{record-refused, record-done}
use Rattle.journal.specs.declared.Entry.{Entry}
use Rattle.journal.specs.Journal.{Kept, kept, Undone, undone, step_on, keep_fits, keep_of, undo_fits, undo_number, undo_of}
use Rattle.journal.proofs.UndoLaws.{keep-room}
use Rattle.keeping.specs.Keeping.{Keeps, KeptBy, Undoes}
use Rattle.points.specs.Points.{points, points_fit}
use Rattle.rewind.specs.Return.{Returned, returned, point_undo_fits, point_undo_of, back_fits, point_back_of}
use Rattle.desks.specs.Desk.{nodes, plain, desk_check, DeskAccepted, desk_row, desk_layout}
use Rattle.desks.specs.Calls.{own_desk, at_desk, step_at_desk, kept_at_desk, desk_step_of, desk_simulate_of, desk_keep_of, desk_undo_of, desk_point_undo_of, desk_point_back_of, desk_record_by_into}
use Rattle.desks.proofs.DeskLaws.{same_nodes}
use Rattle.desks.proofs.CallLaws.{at-number, on-plain, desk-step, keep-plain, undo-plain, point-undo-plain, point-back-plain, record-plain}
use Rattle.desks.proofs.AlikeLaws.{step-alike, keep-alike, undo-alike, point-undo-alike, point-back-alike, marks-alike}
use Rattle.desk_layout.specs.Tables.{Prepared}
use Rattle.desk_layout.proofs.PrepareLaws.{front-is}
use Rattle.desk_layout.proofs.LayoutLaws.{alike, plan-is, laid-plain, fits-is}
use Rattle.desk_calls.specs.Entries.{DeskKeeps, DeskUndoes}

-- a valid event is known
known_by : (p : List ℕ) (code node : ℕ) {a b : Bool} → Valid p a b code node → known p code node ≡ true
unfolding known is_code
known_by p code node v = and-join _ _ (and-join _ _ (le-leb 1 code v.low) (le-leb code 8 v.high)) (lt-ltb node (size p) v.node_in)

-- REFUSED BY THE CHECK, with the number r
module _ (p : List ℕ) (r : ℕ) (told : r ≡ desk_check p) (bad : r ≡ 0 → ⊥) where
  refuses : eqb (desk_check p) 0 ≡ false
  refuses = ne_eqb (desk_check p) 0 (λ z. bad (told ∙ z))

  pub step-refused : (code node : ℕ) (row : List ℕ) → desk_step_of p code node row ≡ stepped row (Refused (Invalid r))
  unfolding desk_step_of
  step-refused code node row = rw (refuses, told)

  pub simulate-refused : (code node desk : ℕ) (st : List ℕ) → desk_simulate_of p code node desk st ≡ simulated st (Refused (Invalid r))
  unfolding desk_simulate_of
  simulate-refused code node desk st = rw (refuses, told)

  pub keep-refused : (st : List ℕ) (len k code node desk : ℕ) (e : Entry) → DeskKeeps p st len k code node desk (Refused (Invalid r)) len e st k
  unfolding desk_keep_of
  keep-refused st len k code node desk e es long = rw (refuses, told, set_out es len e (omega arith))

  pub undo-refused : (st : List ℕ) (len k : ℕ) (e : Entry) → DeskUndoes p st len k e r st k
  unfolding desk_undo_of
  undo-refused st len k e es long last = rw (refuses, told)

  pub point-undo-refused : (st : List ℕ) (es : List Entry) (k : ℕ) (names places : List ℕ) → desk_point_undo_of p st es k names places ≡ returned r st k (points names places)
  unfolding desk_point_undo_of
  point-undo-refused st es k names places = rw (refuses, told)

  pub point-back-refused : (name st : List ℕ) (es : List Entry) (k : ℕ) (names places : List ℕ) → desk_point_back_of p name st es k names places ≡ returned r st k (points names places)
  unfolding desk_point_back_of
  point-back-refused name st es k names places = rw (refuses, told)

  pub desk-record-refused : (tab st m c : List ℕ) → table_number tab ≡ 0 → desk_record_by_into p tab st m c ≡ recorded r m c
  unfolding desk_record_by_into
  desk-record-refused tab st m c ok = rw (ok, refuses, told)

pub table-first : (p tab st m c : List ℕ) (r : ℕ) → r ≡ table_number tab → (r ≡ 0 → ⊥) → desk_record_by_into p tab st m c ≡ recorded r m c
unfolding desk_record_by_into
table-first p tab st m c r told bad = rw (ne_eqb (table_number tab) 0 (λ z. bad (told ∙ z)), told)

-- what is kept of a verdict that names the desk is what is kept of the verdict
module _ (v w : Verdict) (d : ℕ) (is : w ≡ at_desk d v) where
  pub same_number : verdict_number w ≡ verdict_number v
  same_number = ap (λ (x : Verdict). verdict_number x) is ∙ at-number d v

  pub kept-as : (was : Bool) (code node site len k : ℕ) (told : Verdict) (at : ℕ) (e : Entry) (k' : ℕ) → KeptBy w was code node site len k told at e k' → KeptBy v was code node site len k v at e k'
  kept-as was code node site len k told at e k' by = record { same = refl; stored = λ z. by.stored (same_number ∙ z); left = λ h. by.left (λ z. h (sym same_number ∙ z)) }

-- A DESK'S STEP behind the check: n is the code's number of nodes
module _ (p two : List ℕ) (ok : DeskAccepted p) (front : take (2 * nodes p) two ≡ plain p) (n : ℕ) (e : n ≡ nodes p) (code node : ℕ) (row : List ℕ) where
  step-at : desk_step_of p code node row ≡ step_at (plain p) (own_desk p code node) code node row
  step-at = desk-step p ok code node row

  row_fits : eqb (length row) (size (plain p)) ≡ eqb (length row) n
  row_fits = rw (same_nodes p, e)

  pub step-wrong : (length row ≡ n → ⊥) → desk_step_of p code node row ≡ stepped row (Refused (Invalid 7))
  unfolding step_invalid fit_number
  step-wrong w =
      let f : fit_number (plain p) (eqb (length row) (size (plain p))) ≡ 7 = rw ((check-exact (plain p)).1 ok.accepted, row_fits, ne_eqb (length row) n w) in
      let i : step_invalid (plain p) code node row ≡ 7 = invalid-fit (plain p) _ true code node (λ z. absurd (omega (arith, f))) ∙ f in
      step-at ∙ step-invalid (plain p) (own_desk p code node) code node row 7 (sym i) (λ z. absurd (omega arith))

  module _ (long : length row ≡ n) where
    tests : step_invalid (plain p) code node row ≡ event_fault (take (2 * n) two) true code node
    unfolding step_invalid
    tests =
        invalid-fault (plain p) _ true code node ((fit-exact (plain p) _).none.1 (ok.accepted, row_fits ∙ eq-eqb (length row) n long))
        ∙ ap (λ (q : List ℕ). event_fault q true code node) (sym (front-is p two front n e))

    pub step-fault : (r : ℕ) → r ≡ event_fault (take (2 * n) two) true code node → (r ≡ 0 → ⊥) → desk_step_of p code node row ≡ stepped row (Refused (Invalid r))
    step-fault r told bad = step-at ∙ step-invalid (plain p) (own_desk p code node) code node row r (told ∙ sym tests) bad

    module _ (none : event_fault (take (2 * n) two) true code node ≡ 0) where
      pub step_ok : Valid (take (2 * n) two) (eqb (length row) (size (take (2 * n) two))) true code node
      step_ok = subst (λ (q : List ℕ). Valid q (eqb (length row) (size q)) true code node) (sym (front-is p two front n e)) (step-tested (plain p) code node row (tests ∙ none))

      pub step-decided : (d : ℕ) → (known (plain p) code node ≡ true → d ≡ own_desk p code node) → (x : Stepped) → decide (take (2 * n) two) d code node row ≡ x → desk_step_of p code node row ≡ x
      step-decided d own x h =
          let is = front-is p two front n e in
          let k : known (plain p) code node ≡ true = known_by (plain p) code node (step-tested (plain p) code node row (tests ∙ none)) in
          step-at ∙ step-valid (plain p) (own_desk p code node) code node row (tests ∙ none)
          ∙ ap (λ (q : List ℕ). decide q (own_desk p code node) code node row) (sym is) ∙ ap (λ (z : ℕ). decide (take (2 * n) two) z code node row) (sym (own k)) ∙ h

module _ (p : List ℕ) (rows : ℕ) (two home row : List ℕ) (s : Prepared p rows two home row) (n : ℕ) (e : n ≡ nodes p) where
  abbrev ok : DeskAccepted p
  ok = s.accepted

  abbrev lay : Layout
  lay = layout_by rows home

  -- the code's tests of the lengths, passed
  module _ (st : List ℕ) where
    pub undo-tested : (k len : ℕ) → (eqb (length st) (rows * n) && leb k len) ≡ true → (length st ≡ rows * n) × (k ≤ len)
    undo-tested k len t = (eqb-true _ _ (and_left _ _ t), leb-true k len (and_right (eqb (length st) (rows * n)) _ t))

    pub keep-tested : (k len : ℕ) → (eqb (length st) (rows * n) && ltb k len) ≡ true → (length st ≡ rows * n) × (k < len)
    keep-tested k len t = (eqb-true _ _ (and_left _ _ t), ltb-true k len (and_right (eqb (length st) (rows * n)) _ t))

    pub points-tested : (k len : ℕ) (b : Bool) → (eqb (length st) (rows * n) && leb k len && b) ≡ true → (length st ≡ rows * n) × (k ≤ len) × (b ≡ true)
    points-tested k len b t =
        let l = undo-tested k len (and_left (eqb (length st) (rows * n) && leb k len) b t) in
        (l.0, l.1, and_right (eqb (length st) (rows * n) && leb k len) b t)

    pub back-tested : (name : List ℕ) (k len : ℕ) (b : Bool) → (eqb (length name) 8 && eqb (length st) (rows * n) && leb k len && b) ≡ true →
        (length st ≡ rows * n) × (length name ≡ 8) × (k ≤ len) × (b ≡ true)
    back-tested name k len b t =
        let l = and_left (eqb (length name) 8 && eqb (length st) (rows * n) && leb k len) b t in
        let m = and_left (eqb (length name) 8 && eqb (length st) (rows * n)) _ l in (
          eqb-true _ _ (and_right (eqb (length name) 8) _ m),
          eqb-true _ _ (and_left (eqb (length name) 8) _ m),
          leb-true k len (and_right (eqb (length name) 8 && eqb (length st) (rows * n)) _ l),
          and_right (eqb (length name) 8 && eqb (length st) (rows * n) && leb k len) b t,
        )

    pub marks-tested : (m c : List ℕ) → (eqb (length st) (rows * n) && eqb (length m) n && eqb (length c) n) ≡ true → (length st ≡ rows * n) × (length m ≡ n)
    marks-tested m c t =
        let l = and_left (eqb (length st) (rows * n) && eqb (length m) n) _ t in
        (eqb-true _ _ (and_left _ _ l), eqb-true _ _ (and_right (eqb (length st) (rows * n)) _ l))

  -- REFUSED FOR A LENGTH
  seven : (b : Bool) → b ≡ false → fit_number (plain p) b ≡ 7
  unfolding fit_number
  seven b w = rw ((check-exact (plain p)).1 ok.accepted, w)

  pub simulate-wrong : (st : List ℕ) → (length st ≡ rows * n → ⊥) → (code node desk : ℕ) → desk_simulate_of p code node desk st ≡ simulated st (Refused (Invalid 7))
  unfolding step_on at_desk
  simulate-wrong st w code node desk =
      let f = seven (state_fits (plain p) (desk_layout p) st) (fits-is s n e st ∙ ne_eqb (length st) (rows * n) w) in
      on-plain p ok code node desk st ∙ rw (unfit-refused (plain p) (desk_layout p) st (step_by (desk_row p) code node desk) 7 (sym f) (λ z. absurd (omega arith)))

  pub keep-wrong : (st : List ℕ) (len k : ℕ) → (eqb (length st) (rows * n) && ltb k len) ≡ false → (code node desk : ℕ) (x : Entry) →
      DeskKeeps p st len k code node desk (Refused (Invalid 7)) len x st k
  unfolding keep_of keep_fits at_desk
  keep-wrong st len k w code node desk x es long =
      let f = seven (state_fits (plain p) (desk_layout p) st && ltb k (length es)) (rw (fits-is s n e st, long) w) in
      keep-plain p ok st es k code node desk ∙ rw (f, set_out es len x (omega arith))

  pub undo-wrong : (st : List ℕ) (len k : ℕ) → (eqb (length st) (rows * n) && leb k len) ≡ false → (x : Entry) → DeskUndoes p st len k x 7 st k
  unfolding undo_of undo_number undo_fits
  undo-wrong st len k w x es long last =
      let f = seven (state_fits (plain p) (desk_layout p) st && leb k (length es)) (rw (fits-is s n e st, long) w) in
      undo-plain p ok st es k ∙ rw f

  module _ (st : List ℕ) (es : List Entry) (k len : ℕ) (long : length es ≡ len) (names places : List ℕ) (b : Bool) (fine : b ≡ points_fit names places k) where
    pub point-undo-wrong : (eqb (length st) (rows * n) && leb k len && b) ≡ false → desk_point_undo_of p st es k names places ≡ returned 7 st k (points names places)
    unfolding point_undo_of point_undo_fits
    point-undo-wrong w =
        let f = seven (state_fits (plain p) (desk_layout p) st && leb k (length es) && points_fit names places k) (rw (fits-is s n e st, long, ← fine) w) in
        point-undo-plain p ok st es k names places ∙ rw f

    pub point-back-wrong : (name : List ℕ) → (eqb (length name) 8 && eqb (length st) (rows * n) && leb k len && b) ≡ false →
        desk_point_back_of p name st es k names places ≡ returned 7 st k (points names places)
    unfolding point_back_of back_fits
    point-back-wrong name w =
        let f = seven (eqb (length name) 8 && state_fits (plain p) (desk_layout p) st && leb k (length es) && points_fit names places k) (rw (fits-is s n e st, long, ← fine) w) in
        point-back-plain p ok name st es k names places ∙ rw f

  module _ (tab : List ℕ) (right : table_number tab ≡ 0) (st m c : List ℕ) where
    record-at : desk_record_by_into p tab st m c ≡ record_by_on (plain p) (desk_layout p) tab st m c
    record-at = record-plain p ok tab right st m c

    record-fits : (b : Bool) → b ≡ (eqb (length st) (rows * n) && eqb (length m) n && eqb (length c) n) → record_number (plain p) (desk_layout p) st m c ≡ fit_number (plain p) b
    unfolding record_number
    record-fits b is = rw (fits-is s n e st, same_nodes p, ← e, ← is)

    pub record-wrong : (eqb (length st) (rows * n) && eqb (length m) n && eqb (length c) n) ≡ false → desk_record_by_into p tab st m c ≡ recorded 7 m c
    record-wrong w = record-at ∙ record-refused (plain p) (desk_layout p) st m c tab right 7 (sym (record-fits _ refl ∙ seven _ w)) (λ z. absurd (omega arith))

    pub desk-record-done : (eqb (length st) (rows * n) && eqb (length m) n && eqb (length c) n) ≡ true → (m' c' : List ℕ) → m' ≡ end_marks (take (2 * n) two) lay st →
        c' ≡ classes_into (take (2 * n) two) tab m' c → desk_record_by_into p tab st m c ≡ recorded 0 m' c'
    desk-record-done t m' c' marks classes =
        let z : record_number (plain p) (desk_layout p) st m c ≡ 0 = record-fits _ refl ∙ (fit-exact (plain p) _).none.1 (ok.accepted, t) in
        record-at ∙ record-done (plain p) (desk_layout p) st m c z tab right m' c'
        (marks ∙ ap (λ (q : List ℕ). end_marks q lay st) (plan-is s n e) ∙ marks-alike (plain p) lay (via row) (desk_layout p) (desk_row p) (alike s) st)
        (classes ∙ ap (λ (q : List ℕ). classes_into q tab m' c) (plan-is s n e))

  -- DONE on the tables. Of what is no event of the plan no answer names a desk, so any number does for it
  unknown-8 : (st : List ℕ) → length st ≡ rows * n → (code node desk : ℕ) → known (plain p) code node ≡ false → simulate (plain p) lay st (step_by (via row) code node desk) ≡ simulated st (Refused (Invalid 8))
  unknown-8 st long code node desk u =
      let l = laid-plain s n e st long in
      cases (decided (eqb desk 255))
      (λ h. simulate-event (plain p) lay (via row) code node desk st (eqb-true desk 255 h)
      ∙ happen-refused (plain p) lay st l code node 8 (sym (fault-unknown (plain p) true code node u)) (λ z. absurd (omega arith)))
      (λ h. simulate-message (plain p) lay (via row) code node desk st (eqb-false desk 255 h)
      ∙ tell-refused (plain p) lay st l code node (via row desk) 8 (sym (fault-unknown (plain p) _ code node u)) (λ z. absurd (omega arith)))

  module _ (st : List ℕ) (long : length st ≡ rows * n) (code node desk d : ℕ) (own : known (plain p) code node ≡ true → d ≡ own_desk p code node) where
    named-own : (x : Simulated) → simulate (plain p) lay st (step_by (via row) code node desk) ≡ x → step_at_desk (own_desk p code node) x ≡ step_at_desk d x
    unfolding at_desk
    named-own x done = cases (decided (known (plain p) code node))
        (λ k. rw (own k))
        (λ k. let u : x ≡ simulated st (Refused (Invalid 8)) = sym done ∙ unknown-8 st long code node desk k in rw u)

    pub simulate-done : (st' : List ℕ) (v : Verdict) → simulate (take (2 * n) two) lay st (step_by (via row) code node desk) ≡ simulated st' v →
        desk_simulate_of p code node desk st ≡ simulated st' (at_desk d v)
    unfolding step_on
    simulate-done st' v h =
        let done : simulate (plain p) lay st (step_by (via row) code node desk) ≡ simulated st' v = ap (λ (q : List ℕ). simulate q lay st (step_by (via row) code node desk)) (sym (plan-is s n e)) ∙ h in
        let there = sym (step-alike (plain p) lay (via row) (desk_layout p) (desk_row p) (alike s) st code node desk) ∙ done in
        on-plain p ok code node desk st ∙ ap (step_at_desk (own_desk p code node)) there ∙ named-own (simulated st' v) done

    pub keep-done : (es : List Entry) (k : ℕ) → k < length es → (v : Verdict) (st' : List ℕ) (es' : List Entry) (k' : ℕ) →
        keep_of (take (2 * n) two) lay (via row) st es k code node desk ≡ kept (simulated st' v) es' k' →
        desk_keep_of p st es k code node desk ≡ kept (simulated st' (at_desk d v)) es' k'
    unfolding step_on
    keep-done es k room v st' es' k' h =
        let on : keep_of (plain p) lay (via row) st es k code node desk ≡ kept (simulated st' v) es' k' =
        ap (λ (q : List ℕ). keep_of q lay (via row) st es k code node desk) (sym (plan-is s n e)) ∙ h in
        let there = sym (keep-alike (plain p) lay (via row) (desk_layout p) (desk_row p) (alike s) st es k code node desk) ∙ on in
        let done : simulate (plain p) lay st (step_by (via row) code node desk) ≡ simulated st' v =
        sym (keep-room (plain p) lay (via row) st es k code node desk room) ∙ ap (λ (a : Kept). a.step) on in
        keep-plain p ok st es k code node desk ∙ ap (kept_at_desk (own_desk p code node)) there ∙ ap (λ (y : Simulated). kept y es' k') (named-own (simulated st' v) done)

    -- the same of every list of so many entries
    pub desk-keeps : (len k : ℕ) → k < len → (v : Verdict) (at : ℕ) (x : Entry) (st' : List ℕ) (k' : ℕ) → Keeps (take (2 * n) two) lay (via row) st len k code node desk v at x st' k' →
        DeskKeeps p st len k code node desk (at_desk d v) at x st' k'
    desk-keeps len k room v at x st' k' h es l = keep-done es k (rw l room) v st' (set es at x) k' (h es l)

  pub undo-done : (st : List ℕ) (es : List Entry) (k : ℕ) (x : Undone) → undo_of (take (2 * n) two) lay (via row) st es k ≡ x → desk_undo_of p st es k ≡ x
  undo-done st es k x h =
      undo-plain p ok st es k ∙ sym (undo-alike (plain p) lay (via row) (desk_layout p) (desk_row p) (alike s) st es k) ∙ ap (λ (q : List ℕ). undo_of q lay (via row) st es k) (sym (plan-is s n e)) ∙ h

  -- the same of every list of so many entries
  pub desk-undoes : (st : List ℕ) (len k : ℕ) (x : Entry) (r : ℕ) (st' : List ℕ) (k' : ℕ) → Undoes (take (2 * n) two) lay (via row) st len k x r st' k' → DeskUndoes p st len k x r st' k'
  desk-undoes st len k x r st' k' h es l last = undo-done st es k (undone r st' k') (h es l last)

  module _ (st : List ℕ) (es : List Entry) (k : ℕ) (names places : List ℕ) (x : Returned) where
    pub point-undo-done : point_undo_of (take (2 * n) two) lay (via row) st es k names places ≡ x → desk_point_undo_of p st es k names places ≡ x
    point-undo-done h = point-undo-plain p ok st es k names places ∙ (sym (point-undo-alike (plain p) lay (via row) (desk_layout p) (desk_row p) (alike s) st es k names places)
        ∙ ap (λ (q : List ℕ). point_undo_of q lay (via row) st es k names places) (sym (plan-is s n e)) ∙ h)

    pub point-back-done : (name : List ℕ) → point_back_of (take (2 * n) two) lay (via row) name st es k names places ≡ x → desk_point_back_of p name st es k names places ≡ x
    point-back-done name h = point-back-plain p ok name st es k names places ∙ (sym (point-back-alike (plain p) lay (via row) (desk_layout p) (desk_row p) (alike s) name st es k names places)
        ∙ ap (λ (q : List ℕ). point_back_of q lay (via row) name st es k names places) (sym (plan-is s n e)) ∙ h)
