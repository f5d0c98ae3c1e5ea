-- A layout is seen at the plan's nodes only, and numbers that name no row are all alike: calls on layouts that differ in nothing else answer and leave
-- the same. Where the plan or the event is refused, both are; where not, the event's host is a node of the plan. Assumes nothing.
use mathlib.Core.Path.{◌≡◌, refl, ◌∙◌, ap}
use mathlib.Core.Bool.{Bool, true, cond}
use mathlib.Core.List.{List}
use mathlib.Core.Logic.{◌⊎◌}
use Prim.Native.Nat.{ℕ, zero, suc, ◌-◌, ◌≤◌, ◌<◌}
use native.Mathlib.Omega.{arith}
use lib.Dec.{eqb, ltb}
use lib.ListN.{get_or}
use borrow.Author.Tests.{eqb-true, eqb-false, ltb-true, le-ltb}
use Rattle.lists.proofs.Logic.{cases, decided}
use Rattle.lists.proofs.Table.{table-length, table_at, table-by}
use Rattle.plan.specs.Plan.{size}
use Rattle.plan.specs.Check.{Accepted}
use Rattle.plan.proofs.Main.{fit-exact}
use Rattle.event.specs.Event.{event_of, applies}
use Rattle.event.specs.Site.{Layout, host_of, site_of}
use Rattle.event.specs.Valid.{event_fault, invalid}
use Rattle.event.proofs.ValidLaws.{faultless, valid}
use Rattle.event.proofs.HostLaws.{host-in}
use Rattle.site.specs.Verdict.{verdict_number}
use Rattle.job.specs.Simulation.{step_by, state_fits, happen, tell, simulate, mark_at, end_marks}
use Rattle.simulation.specs.Run.{record_number, record_by_number, record_by_on}
use Rattle.journal.specs.declared.Entry.{Entry}
use Rattle.journal.specs.Journal.{no_entry, target, is_set, entry_of, step_on, keep_fits, kept_if, keep_of, sited, entry_fault, undo_fits, undo_number, taken_back, undo_of}
use Rattle.journal.proofs.UndoLaws.{step_ok}
use Rattle.points.specs.Points.{place_at, slot_of}
use Rattle.rewind.specs.Return.{point_undo_fits, point_undo_of, back_of, back_fits, point_back_of}

pub record Alike (p : List ℕ) (lay : Layout) (row : ℕ → ℕ) (lay' : Layout) (row' : ℕ → ℕ) : Type 0 where
  pub count : lay.rows ≡ lay'.rows
  pub homes : (v : ℕ) → v < size p → lay.home v ≡ lay'.home v
  pub named : (d : ℕ) → (row d ≡ row' d) ⊎ ((lay.rows ≤ row d) × (lay.rows ≤ row' d))

module _ (p : List ℕ) (lay : Layout) (row : ℕ → ℕ) (lay' : Layout) (row' : ℕ → ℕ) (a : Alike p lay row lay' row') where
  fits-alike : (st : List ℕ) → state_fits p lay st ≡ state_fits p lay' st
  unfolding state_fits
  fits-alike st = rw a.count

  -- an event that applies happens at a node of the plan
  site-alike : (code node : ℕ) → Accepted p → applies p (event_of code node) ≡ true → site_of p lay (event_of code node) ≡ site_of p lay' (event_of code node)
  unfolding site_of
  site-alike code node ok h = a.homes (host_of p (event_of code node)) (host-in p ok (event_of code node) h)

  -- a number names a row of both, the same, or of none
  in-alike : (d : ℕ) → ltb (row d) lay.rows ≡ ltb (row' d) lay'.rows
  in-alike d = rw (← a.count) (cases (a.named d) (λ e. rw e) (λ o. rw (le-ltb (row d) lay.rows o.0, le-ltb (row' d) lay.rows o.1)))

  row-alike : (d : ℕ) → ltb (row d) lay.rows ≡ true → row d ≡ row' d
  row-alike d l = cases (a.named d) (λ e. e) (λ o. let k = ltb-true (row d) lay.rows l in absurd (omega (arith, o.0)))

  -- STEPS
  happen-alike : (st : List ℕ) (code node : ℕ) → happen p lay st code node ≡ happen p lay' st code node
  unfolding happen
  happen-alike st code node = rw (← fits-alike st) (cases (decided (eqb (invalid p (state_fits p lay st) true code node) 0))
      (λ z. let ok = valid p (state_fits p lay st) true code node (eqb-true _ 0 z) in rw (z, site-alike code node ok.plan ok.applied))
      (λ z. rw z))

  tell-alike : (st : List ℕ) (code node d : ℕ) → tell p lay st code node (row d) ≡ tell p lay' st code node (row' d)
  unfolding tell
  tell-alike st code node d = rw (← fits-alike st, ← in-alike d) (cases (decided (eqb (invalid p (state_fits p lay st) (ltb (row d) lay.rows) code node) 0))
      (λ z. let ok = valid p (state_fits p lay st) (ltb (row d) lay.rows) code node (eqb-true _ 0 z) in
      rw (z, site-alike code node ok.plan ok.applied, row-alike d ok.placed))
      (λ z. rw z))

  pub step-alike : (st : List ℕ) (code node site : ℕ) → step_on p lay row st code node site ≡ step_on p lay' row' st code node site
  unfolding step_on step_by simulate
  step-alike st code node site = cases (decided (eqb site 255)) (λ e. rw e (happen-alike st code node)) (λ e. rw e (tell-alike st code node site))

  -- THE JOURNAL: the row of a bit that is set or cleared
  sited-alike : (site : ℕ) → sited p lay row site ≡ sited p lay' row' site
  unfolding sited
  sited-alike site = ap (cond (eqb site 255) true) (in-alike site)

  target-alike : (code node site : ℕ) → Accepted p → applies p (event_of code node) ≡ true → sited p lay row site ≡ true →
      target p lay row code node site ≡ target p lay' row' code node site
  unfolding target sited
  target-alike code node site ok h l = cases (decided (eqb site 255))
      (λ e. rw e (site-alike code node ok h))
      (λ e. rw e (row-alike site (rw e at l)))

  entry-alike : (st : List ℕ) (code node site : ℕ) → verdict_number (step_on p lay row st code node site).verdict ≡ 0 →
      entry_of p lay row st code node site ≡ entry_of p lay' row' st code node site
  unfolding entry_of is_set
  entry-alike st code node site pass =
      let ok = step_ok p lay row st code node site pass in rw (target-alike code node site ok.plan ok.applied ok.placed)

  pub keep-alike : (st : List ℕ) (es : List Entry) (k code node site : ℕ) → keep_of p lay row st es k code node site ≡ keep_of p lay' row' st es k code node site
  unfolding keep_of keep_fits kept_if
  keep-alike st es k code node site =
      rw (← fits-alike st, ← step-alike st code node site) (cases (decided (eqb (verdict_number (step_on p lay row st code node site).verdict) 0))
      (λ z. rw (z, entry-alike st code node site (eqb-true _ 0 z)))
      (λ z. rw z))

  fault-alike : (e : Entry) → entry_fault p lay row e ≡ entry_fault p lay' row' e
  unfolding entry_fault
  fault-alike e = ap (λ (b : Bool). event_fault p b e.code e.node) (sited-alike e.site)

  number-alike : (st : List ℕ) (es : List Entry) (k : ℕ) → undo_number p lay row st es k ≡ undo_number p lay' row' st es k
  unfolding undo_number undo_fits
  number-alike st es k = rw (← fits-alike st, ← fault-alike (get_or es (k - 1) no_entry))

  -- what a take-back that passes tells of the plan and the last entry
  undo-told : (st : List ℕ) (es : List Entry) (k : ℕ) → undo_number p lay row st es k ≡ 0 → Accepted p × (entry_fault p lay row (get_or es (k - 1) no_entry) ≡ 0)
  unfolding undo_number undo_fits
  undo-told st es k z = cases (decided (eqb (undo_fits p lay row st es k) 0))
      (λ f. cases (decided (eqb k 0)) (λ n. absurd (omega (arith, rw (f, n) at z))) (λ n. (((fit-exact p _).none.0 (eqb-true _ 0 f)).0, rw (f, n) at z)))
      (λ f. absurd (eqb-false _ 0 f (rw f at z)))

  pub undo-alike : (st : List ℕ) (es : List Entry) (k : ℕ) → undo_of p lay row st es k ≡ undo_of p lay' row' st es k
  unfolding undo_of taken_back entry_fault
  undo-alike st es k =
      let e : Entry = get_or es (k - 1) no_entry in
      rw (← number-alike st es k) (cases (decided (eqb (undo_number p lay row st es k) 0))
      (λ z. let t = undo-told st es k (eqb-true _ 0 z) in
      let f = faultless p (sited p lay row e.site) e.code e.node t.1 in
      rw (z, target-alike e.code e.node e.site t.0 f.applied f.placed))
      (λ z. rw z))

  -- POINTS
  pub point-undo-alike : (st : List ℕ) (es : List Entry) (k : ℕ) (names places : List ℕ) → point_undo_of p lay row st es k names places ≡ point_undo_of p lay' row' st es k names places
  unfolding point_undo_of point_undo_fits
  point-undo-alike st es k names places = rw (← fits-alike st, ← undo-alike st es k)

  back-alike : (n : ℕ) (st : List ℕ) (es : List Entry) (k : ℕ) → back_of p lay row n st es k ≡ back_of p lay' row' n st es k
  unfolding back_of
  back-alike zero st es k = refl
  back-alike (suc n) st es k = rw (← undo-alike st es k, back-alike n (undo_of p lay row st es k).state es (undo_of p lay row st es k).count)

  pub point-back-alike : (name st : List ℕ) (es : List Entry) (k : ℕ) (names places : List ℕ) →
      point_back_of p lay row name st es k names places ≡ point_back_of p lay' row' name st es k names places
  unfolding point_back_of back_fits
  point-back-alike name st es k names places = rw (← fits-alike st, ← back-alike (k - place_at places (slot_of names places name)) st es k)

  -- MARKS
  pub marks-alike : (st : List ℕ) → end_marks p lay st ≡ end_marks p lay' st
  unfolding end_marks mark_at
  marks-alike st = table-by _ (size p) _ (table-length _ (size p)) (λ v l. table_at _ (size p) v l ∙ rw (a.homes v l))

  -- THE RECORD
  pub record-alike : (tab st m c : List ℕ) → record_by_on p lay tab st m c ≡ record_by_on p lay' tab st m c
  unfolding record_by_on record_by_number record_number
  record-alike tab st m c = rw (← fits-alike st, ← marks-alike st)
