-- A step of a simulation, of an accepted plan with any layout of rows and a state of rows times nodes: behind 7 come the site's own numbers, and 12.
-- Assumes nothing.
use mathlib.Core.Path.{◌≡◌, refl}
use mathlib.Core.Bool.{true, cond, not}
use mathlib.Core.List.{List}
use Prim.Native.Nat.{ℕ, ◌*◌, ◌<◌}
use borrow.Author.Tests.{eq-eqb, eqb-true}
use lib.Dec.{eqb, ltb}
use lib.ListN.{length}
use Rattle.lists.proofs.Logic.{cases, decided}
use Rattle.plan.specs.Plan.{size}
use Rattle.event.specs.Event.{event_of}
use Rattle.event.specs.Site.{Layout, site_of}
use Rattle.event.specs.Valid.{invalid}
use Rattle.event.proofs.ValidLaws.{valid}
use Rattle.row.specs.Row.{heard, hear}
use Rattle.site.specs.Verdict.{report_of, verdict_number}
use Rattle.site.specs.Verdict.{Invalid, Untrue}
use Rattle.site.specs.Verdict.{Heard, Refused}
use Rattle.runs.proofs.Full.{site-in}
use Rattle.job.specs.Simulation.{row_of, with_row, Step, event, message, Simulated, simulated, state_fits, happen, tell, simulate}
use Rattle.job.proofs.StateLaws.{row-length}
use Rattle.layout.specs.Layout.{Laid}
use Rattle.refusals.specs.Claim.{Later}
use Rattle.refusals.proofs.ChoiceLaws.{choice}
use Rattle.refusals.proofs.PassNumbers.{none-later, later}
use Rattle.refusals.proofs.Passes.{invalid-later, step-later}

abbrev Fine : Simulated → Type 0
Fine r = Later (verdict_number r.verdict)

module _ (p : List ℕ) (lay : Layout) (st : List ℕ) (laid : Laid p lay st) where
  pub laid-fits : state_fits p lay st ≡ true
  unfolding state_fits
  laid-fits = eq-eqb (length st) (lay.rows * size p) laid.long

  -- a valid event's site has a row
  row_in : (code node : ℕ) → invalid p (state_fits p lay st) true code node ≡ 0 → site_of p lay (event_of code node) < lay.rows
  row_in code node z = site-in p laid.plan lay laid.housed (event_of code node) (valid p (state_fits p lay st) true code node z).applied

  happen-later : (code node : ℕ) → Fine (happen p lay st code node)
  unfolding happen report_of
  happen-later code node =
      let n = invalid p (state_fits p lay st) true code node in
      let q = site_of p lay (event_of code node) in
      cases (decided (eqb n 0))
      (λ z. rw z (step-later p laid.plan code node (row_of p st q) (row-length p st lay.rows q laid.long (row_in code node (eqb-true n 0 z))) q))
      (λ z. rw z (invalid-later p laid.plan (state_fits p lay st) true code node laid-fits))

  tell-later : (code node q : ℕ) → Fine (tell p lay st code node q)
  unfolding tell report_of
  tell-later code node q =
      let b = ltb q lay.rows in
      let n = invalid p (state_fits p lay st) b code node in
      let e = event_of code node in
      let done = simulated (with_row p st q (hear (row_of p st q) code node)) Heard in
      choice Fine (not (eqb n 0)) (simulated st (Refused (Invalid n))) (cond (not (heard (row_of p st (site_of p lay e)) e)) (simulated st (Refused Untrue)) done)
      (λ z. invalid-later p laid.plan (state_fits p lay st) b code node laid-fits)
      (λ z. choice Fine (not (heard (row_of p st (site_of p lay e)) e)) (simulated st (Refused Untrue)) done (λ h. later 12 refl) (λ h. none-later))

  pub simulate-later : (t : Step) → Fine (simulate p lay st t)
  unfolding simulate
  simulate-later (event code node) = happen-later code node
  simulate-later (message code node q) = tell-later code node q
