-- THE INVARIANT: wherever a job has got to by events and quiet changes, its events are a run, no row has what did not happen, and what happened is
-- in its own site's row (`InStep` of the crate runs). Assumes nothing.
use mathlib.Core.Path.{◌≡◌, refl}
use mathlib.Core.List.{List, [], ◌∷◌, ◌++◌}
use Prim.Native.Nat.{ℕ, ◌*◌}
use borrow.Author.Tests.{eq-eqb}
use Rattle.lists.specs.Seq.{any}
use Rattle.plan.specs.Plan.{size}
use Rattle.plan.specs.Check.{Accepted}
use Rattle.event.specs.Event.{Event, event_of, among}
use Rattle.event.specs.Site.{Layout, Housed}
use Rattle.central.specs.Central.{run_from, is_run}
use Rattle.lists.specs.Bytes.{Bytes}
use Rattle.runs.proofs.Net.{silence}
use Rattle.runs.proofs.Safe.{InStep, steps_on}
use Rattle.job.specs.Simulation.{step_number, Step, event, simulate, replay_from, passed_of, passed_from, zeros}
use Rattle.job.proofs.View.{view, zero-bytes, zero-view}
use Rattle.job.proofs.Bridge.{decode_all, did-all}
use Rattle.line.specs.Change.{Quiet, Reached, begin, happens, changes}

module _ (p : List ℕ) (ok : Accepted p) (lay : Layout) (housed : Housed p lay) where
  -- the state is bytes, and the rows are in step with the events
  pub record Fits (es : List Event) (st : List ℕ) : Type 0 where
    pub bytes : Bytes (lay.rows * size p) st
    pub rows : InStep p lay es (view p st)

  -- every list of steps keeps it
  pub steps-fit : (es : List Event) (st : List ℕ) (ts : List Step) → Fits es st → Fits (es ++ passed_from p lay st ts) (replay_from p lay st ts)
  steps-fit es st ts h =
      let d = did-all p ok lay housed st h.bytes ts in
      record {
        bytes = d.bytes;
        rows = rw (d.events, d.seen) (steps_on p ok lay es (view p st) (decode_all ts) h.rows);
      }

  -- a quiet change keeps it
  pub quiet-fits : (es : List Event) (st new : List ℕ) → Quiet p lay st new → Fits es st → Fits es new
  quiet-fits es st new quiet h = record {
    bytes = quiet.bytes;
    rows = record {
      run = h.rows.run;
      true-to = λ q f k. let r = quiet.nothing-new q f k in h.rows.true-to r.0 f r.1;
      own = λ f k. quiet.own-kept f (h.rows.own f k);
    };
  }

  event-fits : (es : List Event) (st : List ℕ) (code node : ℕ) → step_number p lay st (event code node) ≡ 0 → Fits es st →
      Fits (es ++ (event_of code node ∷ [])) (simulate p lay st (event code node)).state
  unfolding passed_from passed_of replay_from
  event-fits es st code node n h = rw (eq-eqb _ 0 n) at (steps-fit es st (event code node ∷ []) h)

  pub begin-fits : Fits [] (zeros p lay)
  unfolding silence among any is_run run_from
  begin-fits = record {
    bytes = zero-bytes p lay;
    rows = rw (zero-view p lay) (record { run = refl; true-to = λ q f h. h; own = λ f h. h });
  }

  pub reached-fits : {es : List Event} {st : List ℕ} → Reached p lay es st → Fits es st
  reached-fits begin = begin-fits
  reached-fits (happens {es = es} {st = st} r code node n) = event-fits es st code node n (reached-fits r)
  reached-fits (changes {es = es} {st = st} {new = new} r quiet) = quiet-fits es st new quiet (reached-fits r)
