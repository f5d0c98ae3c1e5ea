-- Every call on a plan read with each node's number as its desk is the call on the plan (rule N9): a refused plan has the same number, and for an
-- accepted one the layouts are alike, and the answer names the event's site already. Assumes nothing.
use mathlib.Core.Path.{◌≡◌, refl, sym, ◌∙◌, ap}
use mathlib.Core.Bool.{Bool, true, false, cond, not}
use mathlib.Core.List.{List}
use Prim.Native.Nat.{ℕ, suc, ◌*◌}
use lib.Dec.{eqb, ltb}
use lib.ListN.{length, set}
use borrow.Author.Tests.{eqb-true, eqb-false, ne_eqb}
use Rattle.lists.proofs.Logic.{cases, decided}
use Rattle.plan.specs.Plan.{size}
use Rattle.plan.specs.Check.{check_number, Accepted, fit_number}
use Rattle.plan.proofs.Main.{check-exact, fit-exact}
use Rattle.event.specs.Event.{event_of, applies}
use Rattle.event.specs.Site.{host_of, Layout, own, site_of}
use Rattle.event.specs.Valid.{invalid}
use Rattle.event.proofs.ValidLaws.{invalid-fit, valid}
use Rattle.event.proofs.HostLaws.{host-in}
use Rattle.retention.specs.Record.{table_number, recorded}
use Rattle.row.specs.Row.{heard}
use Rattle.site.specs.Verdict.{Invalid}
use Rattle.site.specs.Verdict.{Refused}
use Rattle.site.specs.Verdict.{verdict_number}
use Rattle.site.specs.Step.{stepped, step_invalid, site_at, step_at}
use Rattle.site.proofs.StepLaws.{step-tested, step-invalid}
use Rattle.job.specs.Simulation.{row_of, step_by, Simulated, simulated, state_fits, row_stepped, happen, tell, simulate}
use Rattle.job.proofs.StepLaws.{unfit-refused}
use Rattle.simulation.specs.Run.{simulate_of, record_number, record_by_number, record_by_on}
use Rattle.journal.specs.declared.Entry.{Entry}
use Rattle.journal.specs.Journal.{kept, entry_of, step_on, keep_fits, kept_if, keep_of, undone, undo_fits, undo_number, undo_of}
use Rattle.points.specs.Points.{points}
use Rattle.rewind.specs.Return.{returned, point_undo_fits, point_undo_of, back_fits, point_back_of}
use Rattle.desks.specs.Desk.{desk_check, desk_row, desk_layout}
use Rattle.desks.specs.Calls.{own_desk, at_desk, step_at_desk, kept_at_desk, desk_step_of, desk_simulate_of, desk_keep_of, desk_undo_of, desk_point_undo_of, desk_point_back_of, desk_record_by_into}
use Rattle.desks.specs.Claim.{with_own_desks, SameAsPlain}
use Rattle.desks.proofs.AlikeLaws.{Alike, step-alike, keep-alike, undo-alike, point-undo-alike, point-back-alike, record-alike}
use Rattle.desks.proofs.CallLaws.{at-step}
use Rattle.desks.proofs.OwnLaws.{desk-own, plain-own, check-own, alike-own}

-- A REFUSED PLAN: its number, with all left
module _ (p : List ℕ) (bad : check_number p ≡ 0 → ⊥) where
  unfit : (b : Bool) → fit_number p b ≡ check_number p
  unfit b = (fit-exact p b).first bad

  at-bad : (q code node : ℕ) (r : List ℕ) → step_at p q code node r ≡ stepped r (Refused (Invalid (check_number p)))
  unfolding step_invalid
  at-bad q code node r =
      let f : Bool = eqb (length r) (size p) in
      step-invalid p q code node r (check_number p) (sym (invalid-fit p f true code node (λ z. bad (sym (unfit f) ∙ z)) ∙ unfit f)) bad

  on-bad : (st : List ℕ) (code node site : ℕ) → step_on p (own p) (λ q. q) st code node site ≡ simulated st (Refused (Invalid (check_number p)))
  unfolding step_on
  on-bad st code node site = unfit-refused p (own p) st (step_by (λ q. q) code node site) (check_number p) (sym (unfit _)) bad

  keep-bad : (st : List ℕ) (es : List Entry) (k code node site : ℕ) → keep_of p (own p) (λ q. q) st es k code node site ≡ kept (simulated st (Refused (Invalid (check_number p)))) es k
  unfolding keep_of keep_fits
  keep-bad st es k code node site = rw (unfit, ne_eqb (check_number p) 0 bad)

  undo-bad : (st : List ℕ) (es : List Entry) (k : ℕ) → undo_of p (own p) (λ q. q) st es k ≡ undone (check_number p) st k
  unfolding undo_of undo_number undo_fits
  undo-bad st es k = rw (unfit, ne_eqb (check_number p) 0 bad, ne_eqb (check_number p) 0 bad)

  point-undo-bad : (st : List ℕ) (es : List Entry) (k : ℕ) (names places : List ℕ) → point_undo_of p (own p) (λ q. q) st es k names places ≡ returned (check_number p) st k (points names places)
  unfolding point_undo_of point_undo_fits
  point-undo-bad st es k names places = rw (unfit, ne_eqb (check_number p) 0 bad)

  point-back-bad : (name st : List ℕ) (es : List Entry) (k : ℕ) (names places : List ℕ) →
      point_back_of p (own p) (λ q. q) name st es k names places ≡ returned (check_number p) st k (points names places)
  unfolding point_back_of back_fits
  point-back-bad name st es k names places = rw (unfit, ne_eqb (check_number p) 0 bad)

  record-bad : (tab st m c : List ℕ) → table_number tab ≡ 0 → record_by_on p (own p) tab st m c ≡ recorded (check_number p) m c
  unfolding record_by_on record_by_number record_number
  record-bad tab st m c t = rw (t, unfit, ne_eqb (check_number p) 0 bad)

record-table : (p tab st m c : List ℕ) → eqb (table_number tab) 0 ≡ false → record_by_on p (own p) tab st m c ≡ recorded (table_number tab) m c
unfolding record_by_on record_by_number
record-table p tab st m c t = rw (t, t)

-- AN ANSWER THAT NAMES ITS SITE d ALREADY
module _ (p : List ℕ) (code node d : ℕ) (is : Accepted p → applies p (event_of code node) ≡ true → d ≡ site_at p code node) where
  happen-named : (st : List ℕ) → step_at_desk d (happen p (own p) st code node) ≡ happen p (own p) st code node
  unfolding happen at_desk
  happen-named st = cases (decided (eqb (invalid p (state_fits p (own p) st) true code node) 0))
      (λ z. let ok = valid p (state_fits p (own p) st) true code node (eqb-true _ 0 z) in
      let q : ℕ = site_at p code node in
      rw z (ap (row_stepped p st q) (at-step p q d code node (row_of p st q) ∙ rw (is ok.plan ok.applied))))
      (λ z. rw z)

  tell-named : (st : List ℕ) (q : ℕ) → step_at_desk d (tell p (own p) st code node q) ≡ tell p (own p) st code node q
  unfolding tell at_desk
  tell-named st q = cases (decided (eqb (invalid p (state_fits p (own p) st) (ltb q (own p).rows) code node) 0))
      (λ z. cases (decided (heard (row_of p st (site_at p code node)) (event_of code node))) (λ h. rw (z, h)) (λ h. rw (z, h)))
      (λ z. rw z)

  step-named : (st : List ℕ) (site : ℕ) → step_at_desk d (step_on p (own p) (λ q. q) st code node site) ≡ step_on p (own p) (λ q. q) st code node site
  unfolding step_on step_by simulate
  step-named st site = cases (decided (eqb site 255)) (λ e. rw e (happen-named st)) (λ e. rw e (tell-named st site))

  keep-named : (st : List ℕ) (es : List Entry) (k site : ℕ) → kept_at_desk d (keep_of p (own p) (λ q. q) st es k code node site) ≡ keep_of p (own p) (λ q. q) st es k code node site
  unfolding keep_of kept_if at_desk
  keep-named st es k site = cases (decided (eqb (keep_fits p (own p) (λ q. q) st es k) 0))
      (λ z. cases (decided (eqb (verdict_number (step_on p (own p) (λ q. q) st code node site).verdict) 0))
      (λ n. rw (z, n) (ap (λ (s : Simulated). kept s (set es k (entry_of p (own p) (λ q. q) st code node site)) (suc k)) (step-named st site)))
      (λ n. rw (z, n) (ap (λ (s : Simulated). kept s es k) (step-named st site))))
      (λ z. rw z)

  at_named : (r : List ℕ) → step_at p d code node r ≡ step_at p (site_at p code node) code node r
  at_named r = cases (decided (eqb (step_invalid p code node r) 0))
      (λ z. let ok = step-tested p code node r (eqb-true _ 0 z) in rw (is ok.plan ok.applied))
      (λ z. let n : ℕ = step_invalid p code node r in
      let bad = eqb-false n 0 z in step-invalid p d code node r n refl bad ∙ sym (step-invalid p _ code node r n refl bad))

module _ (p : List ℕ) (even : length p ≡ 2 * size p) where
  abbrev w : List ℕ
  w = with_own_desks p

  own-desk : (code node : ℕ) → Accepted p → applies p (event_of code node) ≡ true → own_desk w code node ≡ site_at p code node
  unfolding own_desk site_of own
  own-desk code node ok h = rw (plain-own p even) (desk-own p (host_of p (event_of code node)) (host-in p ok (event_of code node) h))

  -- a call by the check: R is its answer to a refused plan, and g to an accepted one
  by-check : {A : Type 0} (R : ℕ → A) {g t : A} → (Accepted p → g ≡ t) → ((check_number p ≡ 0 → ⊥) → t ≡ R (check_number p)) → cond (not (eqb (desk_check w) 0)) (R (desk_check w)) g ≡ t
  by-check R good bad = rw (check-own p even) (cases (decided (eqb (check_number p) 0))
      (λ z. rw z (good ((check-exact p).0 (eqb-true (check_number p) 0 z))))
      (λ z. rw z (sym (bad (eqb-false (check_number p) 0 z)))))

  alike : Accepted p → Alike p (desk_layout w) (desk_row w) (own p) (λ q. q)
  alike ok = alike-own p ok.few

  pub same-as-plain : SameAsPlain p
  unfolding desk_step_of desk_simulate_of desk_keep_of desk_undo_of desk_point_undo_of desk_point_back_of desk_record_by_into simulate_of step_on
  same-as-plain =
      let e = plain-own p even in
      let lay : Layout = desk_layout w in
      let row : ℕ → ℕ = desk_row w in
      record {
        check = check-own p even;
        step = λ code node r. by-check (λ n. stepped r (Refused (Invalid n)))
            (λ ok. rw e (at_named p code node (own_desk w code node) (own-desk code node) r))
            (λ bad. at-bad p bad (site_at p code node) code node r);
        simulate = λ code node site st. by-check (λ n. simulated st (Refused (Invalid n)))
            (λ ok. rw e (ap (step_at_desk (own_desk w code node)) (step-alike p lay row (own p) (λ q. q) (alike ok) st code node site)
            ∙ step-named p code node (own_desk w code node) (own-desk code node) st site))
            (λ bad. on-bad p bad st code node site);
        keep = λ st es k code node site. by-check (λ n. kept (simulated st (Refused (Invalid n))) es k)
            (λ ok. rw e (ap (kept_at_desk (own_desk w code node)) (keep-alike p lay row (own p) (λ q. q) (alike ok) st es k code node site)
            ∙ keep-named p code node (own_desk w code node) (own-desk code node) st es k site))
            (λ bad. keep-bad p bad st es k code node site);
        undo = λ st es k. by-check (λ n. undone n st k)
            (λ ok. rw e (undo-alike p lay row (own p) (λ q. q) (alike ok) st es k))
            (λ bad. undo-bad p bad st es k);
        point-undo = λ st es k names places. by-check (λ n. returned n st k (points names places))
            (λ ok. rw e (point-undo-alike p lay row (own p) (λ q. q) (alike ok) st es k names places))
            (λ bad. point-undo-bad p bad st es k names places);
        point-back = λ name st es k names places. by-check (λ n. returned n st k (points names places))
            (λ ok. rw e (point-back-alike p lay row (own p) (λ q. q) (alike ok) name st es k names places))
            (λ bad. point-back-bad p bad name st es k names places);
        end-record-by = λ tab st m c. cases (decided (eqb (table_number tab) 0))
            (λ t. rw t (by-check (λ n. recorded n m c)
            (λ ok. rw e (record-alike p lay row (own p) (λ q. q) (alike ok) tab st m c))
            (λ bad. record-bad p bad tab st m c (eqb-true (table_number tab) 0 t))))
            (λ t. rw t (sym (record-table p tab st m c t)));
      }
