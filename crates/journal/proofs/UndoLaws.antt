-- One kept step and its take-back: what a step that passed left, and that taking it back gives the state before it (rules L2, L3, L6 and L7).
-- Assumes nothing.
use mathlib.Core.Path.{◌≡◌, refl, sym, ◌∙◌, ap, subst}
use mathlib.Core.Bool.{true, false, cond, ◌&&◌, and-true}
use mathlib.Core.List.{List}
use Prim.Native.Nat.{ℕ, suc, ◌+◌, ◌*◌, ◌-◌, ◌≤◌, ◌<◌}
use native.Mathlib.Omega.{arith}
use lib.Dec.{eqb, ltb, leb}
use lib.ListN.{length, get_or, set, length-set}
use lib.Seq.{get_or-set_same, set-set, set-get_or, set_out}
use borrow.Author.Tests.{eq-eqb, ne_eqb, eqb-true, eqb-false, ltb-true, ltb-false, lt-ltb, le-leb}
use Rattle.lists.proofs.Logic.{cases, decided, and-join, and_right}
use Rattle.plan.specs.Plan.{size}
use Rattle.plan.specs.Check.{fit_number}
use Rattle.plan.proofs.Main.{fit-exact}
use Rattle.event.specs.Event.{event_of}
use Rattle.event.specs.Site.{Layout, site_of}
use Rattle.event.specs.Bit.{has_bit, with_bit, without_bit}
use Rattle.event.specs.Valid.{event_fault, invalid, Valid}
use Rattle.event.proofs.BitLaws.{with-without}
use Rattle.event.proofs.ValidLaws.{invalid-fault, valid}
use Rattle.row.specs.Row.{heard_in, hear}
use Rattle.site.specs.Verdict.{Invalid}
use Rattle.site.specs.Verdict.{Refused}
use Rattle.site.specs.Verdict.{report_of, verdict_number}
use Rattle.lists.specs.Bytes.{Bytes}
use Rattle.job.specs.Simulation.{row_of, with_row, step_by, Simulated, simulated, state_fits, happen, tell, simulate}
use Rattle.job.proofs.StateLaws.{byte_at, row-hear, row-unhear}
use Rattle.job.proofs.StepLaws.{happen-leaves, tell-leaves, unfit-refused, refused-leaves}
use Rattle.journal.specs.declared.Entry.{Entry}
use Rattle.journal.specs.Journal.{no_entry, kept, undone, target, is_set, entry_of, step_on, keep_fits, kept_if, keep_of, sited, entry_fault, undo_fits, undo_number, taken_back, undo_of}
use Rattle.journal.specs.Session.{lent, kept_lent, undone_lent, kept_number}

module _ (p : List ℕ) (lay : Layout) (st : List ℕ) (code node : ℕ) where
  -- a step that passed was valid
  pub happen-valid : verdict_number (happen p lay st code node).verdict ≡ 0 → invalid p (state_fits p lay st) true code node ≡ 0
  unfolding happen report_of
  happen-valid h = cases (decided (eqb (invalid p (state_fits p lay st) true code node) 0)) (λ z. eqb-true _ 0 z) (λ z. absurd (eqb-false _ 0 z (rw z at h)))

  pub tell-valid : (q : ℕ) → verdict_number (tell p lay st code node q).verdict ≡ 0 → invalid p (state_fits p lay st) (ltb q lay.rows) code node ≡ 0
  unfolding tell report_of
  tell-valid q h = cases (decided (eqb (invalid p (state_fits p lay st) (ltb q lay.rows) code node) 0)) (λ z. eqb-true _ 0 z) (λ z. absurd (eqb-false _ 0 z (rw z at h)))

  -- and it set the event in one row
  happen-sets : verdict_number (happen p lay st code node).verdict ≡ 0 →
      (happen p lay st code node).state ≡ with_row p st (site_of p lay (event_of code node)) (hear (row_of p st (site_of p lay (event_of code node))) code node)
  happen-sets h = happen-leaves p lay st code node ∙ rw (eq-eqb (verdict_number (happen p lay st code node).verdict) 0 h)

  tell-sets : (q : ℕ) → verdict_number (tell p lay st code node q).verdict ≡ 0 → (tell p lay st code node q).state ≡ with_row p st q (hear (row_of p st q) code node)
  tell-sets q h = tell-leaves p lay st code node q ∙ rw (eq-eqb (verdict_number (tell p lay st code node q).verdict) 0 h)

module _ (p : List ℕ) (lay : Layout) (row : ℕ → ℕ) where
  abbrev number_on : List ℕ → ℕ → ℕ → ℕ → ℕ
  number_on st code node site = verdict_number (step_on p lay row st code node site).verdict

  refused-on : (st : List ℕ) (code node site : ℕ) → (number_on st code node site ≡ 0 → ⊥) → (step_on p lay row st code node site).state ≡ st
  unfolding step_on
  refused-on st code node site bad = refused-leaves p lay st (step_by row code node site) bad

  unfit-on : (st : List ℕ) (code node site : ℕ) → (fit_number p (state_fits p lay st) ≡ 0 → ⊥) →
      step_on p lay row st code node site ≡ simulated st (Refused (Invalid (fit_number p (state_fits p lay st))))
  unfolding step_on
  unfit-on st code node site bad = unfit-refused p lay st (step_by row code node site) _ refl bad

  -- A STEP THAT PASSED
  module _ (st : List ℕ) (code node site : ℕ) (pass : number_on st code node site ≡ 0) where
    abbrev q : ℕ
    q = target p lay row code node site

    step-valid : invalid p (state_fits p lay st) (sited p lay row site) code node ≡ 0
    unfolding step_on step_by simulate sited
    step-valid = cases (decided (eqb site 255))
        (λ e. rw e (happen-valid p lay st code node (rw e at pass)))
        (λ e. rw e (tell-valid p lay st code node (row site) (rw e at pass)))

    pub step_ok : Valid p (state_fits p lay st) (sited p lay row site) code node
    step_ok = valid p (state_fits p lay st) (sited p lay row site) code node step-valid

    step_fits : fit_number p (state_fits p lay st) ≡ 0
    step_fits = (fit-exact p (state_fits p lay st)).none.1 (step_ok.plan, step_ok.long)

    -- the same numbers are still fine
    step-faultless : event_fault p (sited p lay row site) code node ≡ 0
    step-faultless = sym (invalid-fault p (state_fits p lay st) (sited p lay row site) code node step_fits) ∙ step-valid

    step-sets : (step_on p lay row st code node site).state ≡ with_row p st q (hear (row_of p st q) code node)
    unfolding step_on step_by simulate target
    step-sets = cases (decided (eqb site 255))
        (λ e. rw e (happen-sets p lay st code node (rw e at pass)))
        (λ e. rw e (tell-sets p lay st code node (row site) (rw e at pass)))

    -- it set one byte of the state
    abbrev spot : ℕ
    spot = q * size p + node

    abbrev was : ℕ
    was = get_or st spot 0

    step_set : (step_on p lay row st code node site).state ≡ set st spot (with_bit was code)
    step_set = step-sets ∙ row-hear p st q node step_ok.node_in code

    step-length : length (step_on p lay row st code node site).state ≡ length st
    step-length = ap length step_set ∙ length-set st spot (with_bit was code)

    set-was : is_set p lay row st code node site ≡ has_bit was code
    unfolding is_set heard_in
    set-was = ap (λ (b : ℕ). has_bit b code) (byte_at p st q node step_ok.node_in)

    -- a repeat changed nothing
    pub repeat-same : is_set p lay row st code node site ≡ true → (step_on p lay row st code node site).state ≡ st
    unfolding with_bit
    repeat-same h = let b : has_bit was code ≡ true = sym set-was ∙ h in step_set ∙ rw b (set-get_or st spot 0)

    -- set and cleared again; past the end nothing is either
    module _ (bytes : Bytes (lay.rows * size p) st) (fresh : has_bit was code ≡ false) where
      abbrev after : List ℕ
      after = set st spot (with_bit was code)

      cleared : set after spot (without_bit (get_or after spot 0) code) ≡ st
      cleared = cases (decided (ltb spot (length st)))
          (λ l. let g = get_or-set_same st spot (with_bit was code) 0 (ltb-true spot (length st) l) in
          let w : without_bit (get_or after spot 0) code ≡ was = ap (λ (b : ℕ). without_bit b code) g ∙ with-without was code (bytes.small spot) step_ok.low step_ok.high fresh in
          ap (λ (b : ℕ). set after spot b) w ∙ set-set st spot (with_bit was code) was ∙ set-get_or st spot 0)
          (λ l. let o : length st ≤ spot = ltb-false spot (length st) l in
          let a : after ≡ st = set_out st spot (with_bit was code) o in
          set_out after spot (without_bit (get_or after spot 0) code) (rw a o) ∙ a)

    -- taken back by an entry that says rightly whether it set the bit
    back : Bytes (lay.rows * size p) st → (e : Entry) → e.code ≡ code → e.node ≡ node → e.site ≡ site → e.changed ≡ cond (is_set p lay row st code node site) 0 1 →
        taken_back p lay row (step_on p lay row st code node site).state e ≡ st
    unfolding taken_back
    back bytes e c n s d = cases (decided (is_set p lay row st code node site))
        (λ h. let z : e.changed ≡ 0 = d ∙ rw h in rw z (repeat-same h))
        (λ h. let z : e.changed ≡ 1 = d ∙ rw h in
        rw (z, c, n, s) (row-unhear p (step_on p lay row st code node site).state q node step_ok.node_in code
        ∙ ap (λ (l : List ℕ). set l spot (without_bit (get_or l spot 0) code)) step_set
        ∙ cleared bytes (sym set-was ∙ h)))

  -- A STEP KEPT
  module _ (st : List ℕ) (es : List Entry) (k code node site : ℕ) where
    room_fits : k < length es → keep_fits p lay row st es k ≡ fit_number p (state_fits p lay st)
    unfolding keep_fits
    room_fits l = rw (lt-ltb k (length es) l, and-true)

    if-step : (n : ℕ) → (kept_if p lay row n (step_on p lay row st code node site) es k (entry_of p lay row st code node site)).step ≡ step_on p lay row st code node site
    unfolding kept_if
    if-step n = cases (decided (eqb n 0)) (λ z. rw z) (λ z. rw z)

    -- with a place left it answers what the simulation answers
    pub keep-room : k < length es → (keep_of p lay row st es k code node site).step ≡ step_on p lay row st code node site
    unfolding keep_of
    keep-room l = cases (decided (eqb (fit_number p (state_fits p lay st)) 0))
        (λ z. rw (room_fits l, z) (if-step (number_on st code node site)))
        (λ z. rw (room_fits l, z) (sym (unfit-on st code node site (eqb-false _ 0 z))))

    -- one that passed is kept at the count
    pub keep-passed : k < length es → number_on st code node site ≡ 0 →
        keep_of p lay row st es k code node site ≡ kept (step_on p lay row st code node site) (set es k (entry_of p lay row st code node site)) (suc k)
    unfolding keep_of kept_if
    keep-passed l z = rw (room_fits l, step_fits st code node site z, eq-eqb (number_on st code node site) 0 z)

    within : keep_fits p lay row st es k ≡ 0 → k < length es
    unfolding keep_fits
    within z = ltb-true k (length es) (and_right (state_fits p lay st) _ ((fit-exact p (state_fits p lay st && ltb k (length es))).none.0 z).1)

    -- 0 is the answer of a step that was kept, and of no other
    pub keep-told : kept_number p lay row st es k code node site ≡ 0 → (k < length es) × (number_on st code node site ≡ 0)
    unfolding keep_of report_of
    keep-told h = cases (decided (eqb (keep_fits p lay row st es k) 0))
        (λ z. let l = within (eqb-true _ 0 z) in (l, ap (λ (s : Simulated). verdict_number s.verdict) (sym (keep-room l)) ∙ h))
        (λ z. absurd (eqb-false _ 0 z (rw z at h)))

    -- a refused one leaves everything
    pub keep-refused : (kept_number p lay row st es k code node site ≡ 0 → ⊥) → kept_lent (keep_of p lay row st es k code node site) ≡ lent st es k
    unfolding keep_of kept_if
    keep-refused h = cases (decided (eqb (keep_fits p lay row st es k) 0))
        (λ z. let bad : number_on st code node site ≡ 0 → ⊥ = λ n. h (ap (λ (s : Simulated). verdict_number s.verdict) (keep-room (within (eqb-true _ 0 z))) ∙ n) in
        rw (z, ne_eqb (number_on st code node site) 0 bad) (ap (λ (s : List ℕ). lent s es k) (refused-on st code node site bad)))
        (λ z. rw z)

  -- THE LAST STEP TAKEN BACK
  -- a take-back that is refused leaves everything
  pub undo-refused : (st : List ℕ) (es : List Entry) (k : ℕ) → ((undo_of p lay row st es k).number ≡ 0 → ⊥) → undone_lent es (undo_of p lay row st es k) ≡ lent st es k
  unfolding undo_of
  undo-refused st es k h = cases (decided (eqb (undo_number p lay row st es k) 0)) (λ z. absurd (h (rw z))) (λ z. rw z)

  -- the entry e keeps a step that passed on st
  pub record KeepsAt (st : List ℕ) (e : Entry) : Type 0 where
    pub pass : number_on st e.code e.node e.site ≡ 0
    pub told : e.changed ≡ cond (is_set p lay row st e.code e.node e.site) 0 1

  pub undo-last : (st : List ℕ) → Bytes (lay.rows * size p) st → (es : List Entry) (k : ℕ) → k < length es → KeepsAt st (get_or es k no_entry) →
      (st' : List ℕ) → st' ≡ (step_on p lay row st (get_or es k no_entry).code (get_or es k no_entry).node (get_or es k no_entry).site).state →
      undo_of p lay row st' es (suc k) ≡ undone 0 st k
  unfolding undo_of undo_number undo_fits entry_fault state_fits
  undo-last st bytes es k l keeps st' is =
      let e : Entry = get_or es k no_entry in
      let long : length st' ≡ lay.rows * size p = ap length is ∙ step-length st e.code e.node e.site keeps.pass ∙ bytes.long in
      let fits : (eqb (length st') (lay.rows * size p) && leb (suc k) (length es)) ≡ true = and-join _ _ (eq-eqb _ _ long) (le-leb (suc k) (length es) l) in
      let fit : fit_number p (eqb (length st') (lay.rows * size p) && leb (suc k) (length es)) ≡ 0 = (fit-exact p _).none.1 ((step_ok st e.code e.node e.site keeps.pass).plan, fits) in
      let some : eqb (suc k) 0 ≡ false = ne_eqb (suc k) 0 (λ z. absurd (omega arith)) in
      let last : suc k - 1 ≡ k = omega arith in
      let fine : event_fault p (sited p lay row e.site) e.code e.node ≡ 0 = step-faultless st e.code e.node e.site keeps.pass in
      let b : taken_back p lay row st' e ≡ st = ap (λ (s : List ℕ). taken_back p lay row s e) is ∙ back st e.code e.node e.site keeps.pass bytes e refl refl refl keeps.told in
      rw (fit, some, last, fine) (ap (λ (s : List ℕ). undone 0 s k) b)

  pub undo-kept : (st : List ℕ) → Bytes (lay.rows * size p) st → (es : List Entry) (k code node site : ℕ) → kept_number p lay row st es k code node site ≡ 0 →
      undo_of p lay row (keep_of p lay row st es k code node site).step.state (keep_of p lay row st es k code node site).entries (keep_of p lay row st es k code node site).count ≡ undone 0 st k
  unfolding entry_of
  undo-kept st bytes es k code node site h =
      let t = keep-told st es k code node site h in
      let e : Entry = entry_of p lay row st code node site in
      let g : get_or (set es k e) k no_entry ≡ e = get_or-set_same es k e no_entry t.0 in
      rw (keep-passed st es k code node site t.0 t.1)
      (undo-last st bytes (set es k e) k (rw (length-set es k e) t.0) (subst (KeepsAt st) (sym g) (record { pass = t.1; told = refl }))
      (step_on p lay row st code node site).state (rw g))
