-- One step of the simulation, for any layout of rows: when it passes, and what it leaves. For an accepted plan and a fitting state the tests 1 to 7
-- pass, and what is left are the code, the node, the site, bars and guard. Assumes nothing.
use mathlib.Core.Path.{◌≡◌, refl, sym, ◌∙◌}
use mathlib.Core.Bool.{Bool, true, false, not, ◌&&◌, cond, and_assoc, and-true}
use mathlib.Core.List.{List}
use Prim.Native.Nat.{ℕ, ◌*◌, ◌<◌}
use lib.Dec.{eqb, ltb}
use lib.ListN.{length}
use borrow.Author.Tests.{eq-eqb, ne_eqb}
use Rattle.lists.proofs.Logic.{cases, and_right, parts, decided}
use Rattle.plan.specs.Plan.{size, kind, in_xor}
use Rattle.plan.specs.Check.{fit_number, Accepted}
use Rattle.plan.proofs.Main.{fit-exact}
use Rattle.event.specs.Event.{code_of, is_code, event_of, applies_by, applies, known}
use Rattle.event.specs.Site.{Layout, Housed, site_of}
use Rattle.event.specs.Valid.{event_fault, invalid}
use Rattle.event.proofs.ValidLaws.{invalid-fit}
use Rattle.row.specs.Row.{heard, hear}
use Rattle.site.specs.Verdict.{Invalid}
use Rattle.site.specs.Verdict.{Refused}
use Rattle.site.specs.Verdict.{report_of, verdict_number}
use Rattle.site.specs.Step.{step_invalid, step_at}
use Rattle.row.proofs.RowLaws.{hear-again}
use Rattle.site.proofs.StepLaws.{step-passes, step-leaves}
use Rattle.runs.proofs.Net.{passes, relayed}
use Rattle.runs.proofs.Full.{site-in}
use Rattle.job.specs.Simulation.{row_of, with_row, Step, event, message, simulated, state_fits, happen, tell, simulate, step_number}
use Rattle.job.proofs.StateLaws.{with-same, row-length}
use Rattle.job.proofs.View.{view}

module _ (p : List ℕ) (lay : Layout) (st : List ℕ) (code node : ℕ) where
  abbrev site : ℕ
  site = site_of p lay (event_of code node)

  abbrev here : List ℕ
  here = row_of p st site

  -- an event
  happen-passes : eqb (verdict_number (happen p lay st code node).verdict) 0
      ≡ (eqb (invalid p (state_fits p lay st) true code node) 0 && eqb (verdict_number (step_at p site code node here).verdict) 0)
  unfolding happen report_of
  happen-passes = cases (decided (eqb (invalid p (state_fits p lay st) true code node) 0)) (λ z. rw z) (λ z. rw (z, z))

  pub happen-leaves : (happen p lay st code node).state
      ≡ cond (eqb (verdict_number (happen p lay st code node).verdict) 0) (with_row p st site (hear here code node)) st
  unfolding happen report_of
  happen-leaves = cases (decided (eqb (invalid p (state_fits p lay st) true code node) 0))
      (λ z. rw (z, step-leaves p site code node here) (put_back (eqb (verdict_number (step_at p site code node here).verdict) 0)))
      (λ z. rw (z, z))
    where
      put_back : (b : Bool) → with_row p st site (cond b (hear here code node) here) ≡ cond b (with_row p st site (hear here code node)) st
      put_back true = refl
      put_back false = with-same p st site

  -- a message to site q
  module _ (q : ℕ) where
    tell-passes : eqb (verdict_number (tell p lay st code node q).verdict) 0
        ≡ (eqb (invalid p (state_fits p lay st) (ltb q lay.rows) code node) 0 && heard here (event_of code node))
    unfolding tell report_of
    tell-passes = cases (decided (eqb (invalid p (state_fits p lay st) (ltb q lay.rows) code node) 0))
        (λ z. cases (decided (heard here (event_of code node))) (λ h. rw (z, h)) (λ h. rw (z, h)))
        (λ z. rw (z, z))

    pub tell-leaves : (tell p lay st code node q).state ≡ cond (eqb (verdict_number (tell p lay st code node q).verdict) 0) (with_row p st q (hear (row_of p st q) code node)) st
    unfolding tell report_of
    tell-leaves = cases (decided (eqb (invalid p (state_fits p lay st) (ltb q lay.rows) code node) 0))
        (λ z. cases (decided (heard here (event_of code node))) (λ h. rw (z, h)) (λ h. rw (z, h)))
        (λ z. rw (z, z))

-- 1 to 7 are found before the step is looked at
pub unfit-refused : (p : List ℕ) (lay : Layout) (st : List ℕ) (t : Step) (n : ℕ) → n ≡ fit_number p (state_fits p lay st) → (n ≡ 0 → ⊥) →
    simulate p lay st t ≡ simulated st (Refused (Invalid n))
unfolding simulate happen tell
unfit-refused p lay st (event code node) n e h = rw (invalid-fit p (state_fits p lay st) true code node (λ z. h (e ∙ z)), ← e, ne_eqb n 0 h)
unfit-refused p lay st (message code node q) n e h = rw (invalid-fit p (state_fits p lay st) (ltb q lay.rows) code node (λ z. h (e ∙ z)), ← e, ne_eqb n 0 h)

-- a refused step leaves the state
pub refused-leaves : (p : List ℕ) (lay : Layout) (st : List ℕ) (t : Step) → (step_number p lay st t ≡ 0 → ⊥) → (simulate p lay st t).state ≡ st
unfolding simulate
refused-leaves p lay st (event code node) h = happen-leaves p lay st code node ∙ rw (ne_eqb (verdict_number (happen p lay st code node).verdict) 0 h)
refused-leaves p lay st (message code node q) h = tell-leaves p lay st code node q ∙ rw (ne_eqb (verdict_number (tell p lay st code node q).verdict) 0 h)

-- a repeated message changes nothing
pub repeat-leaves : (p : List ℕ) (lay : Layout) (st : List ℕ) (code node q : ℕ) → heard (row_of p st q) (event_of code node) ≡ true →
    (simulate p lay st (message code node q)).state ≡ st
unfolding simulate
repeat-leaves p lay st code node q h = tell-leaves p lay st code node q ∙ go (eqb (verdict_number (tell p lay st code node q).verdict) 0)
  where
    go : (b : Bool) → cond b (with_row p st q (hear (row_of p st q) code node)) st ≡ st
    go true = rw (hear-again (row_of p st q) code node h) (with-same p st q)
    go false = refl

-- AN ACCEPTED PLAN
pub valid-is : (p : List ℕ) → Accepted p → (sited : Bool) (code node : ℕ) →
    eqb (invalid p true sited code node) 0 ≡ ((is_code code && applies p (event_of code node)) && sited)
unfolding event_fault invalid known applies
valid-is p ok sited code node =
    rw ((fit-exact p true).none.1 (ok, refl)) (go (is_code code) (ltb node (size p)) (applies_by (code_of code) (kind p node) (in_xor p node)) sited)
  where
    go : (c b x l : Bool) → eqb (cond (not ((c && b) && l)) 8 (cond (not (b && x)) 9 0)) 0 ≡ ((c && (b && x)) && l)
    go false b x l = refl
    go true false x l = refl
    go true true false false = refl
    go true true false true = refl
    go true true true false = refl
    go true true true true = refl

shut : (c a n h : Bool) → (c && a) ≡ false → (c && ((a && n) && h)) ≡ false
shut false a n h e = refl
shut true a n h e = rw e

module _ (p : List ℕ) (ok : Accepted p) (lay : Layout) (housed : Housed p lay) (st : List ℕ) (long : length st ≡ lay.rows * size p) (code node : ℕ) where
  fitting : state_fits p lay st ≡ true
  unfolding state_fits
  fitting = eq-eqb (length st) (lay.rows * size p) long

  -- the site's own tests of a row are those of the state
  pub step-valid : (q : ℕ) → q < lay.rows → eqb (step_invalid p code node (row_of p st q)) 0 ≡ (is_code code && applies p (event_of code node))
  unfolding step_invalid
  step-valid q l = rw (eq-eqb (length (row_of p st q)) (size p) (row-length p st lay.rows q long l)) (valid-is p ok true code node ∙ and-true _)

  -- an event passes if it is one, and it passes by bars and guard at its site
  pub event-passes : eqb (verdict_number (happen p lay st code node).verdict) 0 ≡ (is_code code && passes p lay (view p st) (event_of code node))
  unfolding passes
  event-passes =
      happen-passes p lay st code node
      ∙ rw (fitting, valid-is p ok true code node, and-true) (cases (decided (is_code code && applies p (event_of code node)))
      (λ k. let c : is_code code ≡ true = search parts in
      let a : applies p (event_of code node) ≡ true = and_right (is_code code) _ k in
      rw (c, a) (step-passes p (site p lay st code node) code node (here p lay st code node)
      ∙ rw (step-valid (site_of p lay (event_of code node)) (site-in p ok lay housed (event_of code node) a), c, a)))
      (λ k. rw k (sym (shut (is_code code) (applies p (event_of code node)) _ _ k))))

  -- a message passes if it tells of an event to a site, and the event's own site has heard it
  pub message-passes : (q : ℕ) → eqb (verdict_number (tell p lay st code node q).verdict) 0 ≡ (is_code code && relayed p lay (view p st) (event_of code node) q)
  unfolding relayed
  message-passes q =
      tell-passes p lay st code node q
      ∙ rw (fitting, valid-is p ok (ltb q lay.rows) code node) (simp and_assoc)
