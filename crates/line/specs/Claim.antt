-- THE CLAIM OF THE LINE (rules V): what demand 3 says of lists of steps, for every job whose rows also change quietly; and that telling audiences
-- is enough. Definitions only.
use Rattle.std.specs.Prelude.{◌≡◌, true, false, List, [], ◌∷◌, ◌++◌, map, ◌↔◌, ◌⊎◌, ℕ, ◌*◌, ◌<◌}
use Rattle.lists.specs.Seq.{keep}
use Rattle.lists.specs.Member.{In}
use Rattle.plan.specs.Plan.{size}
use Rattle.plan.specs.Check.{Accepted}
use Rattle.event.specs.Event.{code_number, Event, among, applies}
use Rattle.event.specs.Site.{Layout, Housed, site_of}
use Rattle.guard.specs.Guard.{guard, holds, barred}
use Rattle.central.specs.Central.{fresh, allowed, is_run, reaches}
use Rattle.pass.specs.Pass.{pass}
use Rattle.retention.specs.Record.{record_of}
use Rattle.row.specs.Row.{heard}
use Rattle.site.specs.Verdict.{verdict_number}
use Rattle.site.specs.Step.{step_at}
use Rattle.lists.specs.Bytes.{Bytes}
use Rattle.runs.specs.Agree.{Agrees}
use Rattle.job.specs.Simulation.{row_of, with_row, Step, event, message, simulate, replay_from, replay, passed, mark_at, end_marks}
use Rattle.job.specs.Claim.{Over}
use Rattle.audience.specs.Audience.{names, audience}
use Rattle.merge.specs.Merge.{merged, new_events, merge_of}
use Rattle.line.specs.Change.{True, Quiet, Reached}
use Rattle.merge.specs.Output.{output}
use Rattle.merge.specs.Events.{every}

-- B3: the row of the site where e happens
abbrev pub row_for : List ℕ → Layout → List ℕ → Event → List ℕ
row_for p lay st e = row_of p st (site_of p lay e)

-- V8: site q has heard of every event that happened and that its guards name
abbrev pub Knows : List ℕ → Layout → List Event → List ℕ → ℕ → Type 0
Knows p lay es st q = (f : Event) → among es f ≡ true → names p lay q f ≡ true → heard (row_of p st q) f ≡ true

-- V8: every event that happened has been told to its audience
abbrev pub Told : List ℕ → Layout → List Event → List ℕ → Type 0
Told p lay es st = (f : Event) → among es f ≡ true → (q : ℕ) → In q (audience p lay f) → heard (row_of p st q) f ≡ true

-- V9: the job is over: every event is told to its audience, and none can pass at its site
pub record Settled (p : List ℕ) (lay : Layout) (es : List Event) (st : List ℕ) : Type 0 where
  pub told : Told p lay es st
  pub still : (e : Event) → applies p e ≡ true → (barred p (heard (row_for p lay st e)) e ≡ true) ⊎ (holds (heard (row_for p lay st e)) (guard p e) ≡ false)

-- V3: what holds wherever a job has got to
pub record Sound (p : List ℕ) (lay : Layout) (es : List Event) (st : List ℕ) : Type 0 where
  -- I1
  pub state : Bytes (lay.rows * size p) st
  -- I4, THE INVARIANT: the events are a run, no row has what did not happen, and an event's own site has it
  pub run : is_run p es ≡ true
  pub within : (q : ℕ) (e : Event) → heard (row_of p st q) e ≡ true → among es e ≡ true
  pub own : (e : Event) → heard (row_for p lay st e) e ≡ among es e
  -- I5
  pub mark : (v : ℕ) → v < size p → mark_at p lay st v ≡ (reaches fresh es).mark v
  -- V8, I11: for a site that knows what its guards name, and every site does where every audience was told
  pub faithful : (e : Event) → applies p e ≡ true → Knows p lay es st (site_of p lay e) →
      (verdict_number (step_at p (site_of p lay e) (code_number e.code) e.node (row_for p lay st e)).verdict ≡ 0) ↔ (allowed p (reaches fresh es) e ≡ true)
  pub told-knows : Told p lay es st → (q : ℕ) → q < lay.rows → Knows p lay es st q
  -- V9, I10
  pub accepts : Settled p lay es st → (a : List ℕ) → Bytes (size p) a → Agrees p (among es) a → (pass p a).number ≡ 0
  pub same-record : Settled p lay es st → (a : List ℕ) → Bytes (size p) a → Agrees p (among es) a →
      (tab : List ℕ) → record_of p tab (pass p a).marks ≡ record_of p tab (end_marks p lay st)

-- I0: an event as a step, and told to sites
abbrev pub event_step : Event → Step
event_step e = event (code_number e.code) e.node

abbrev pub tell_step : Event → ℕ → Step
tell_step e q = message (code_number e.code) e.node q

-- V9: each event happens, and then its audience is told of it
unfoldable pub sparing : List ℕ → Layout → List Event → List Step
sparing p lay [] = []
sparing p lay (e ∷ es) = event_step e ∷ (map (tell_step e) (audience p lay e) ++ sparing p lay es)

-- V13: the messages that tell site q all of a row
unfoldable pub row_steps : List ℕ → List ℕ → ℕ → List Step
row_steps p row q = map (λ e. tell_step e q) (keep (heard row) (every p))

-- V13: row may come to site q of the state st
pub record Comes (p : List ℕ) (lay : Layout) (st : List ℕ) (q : ℕ) (row : List ℕ) : Type 0 where
  pub site : q < lay.rows
  pub bytes : Bytes (size p) row
  pub true-row : True p st row

-- V14: site q may begin again from row: nothing in it is made up, and what happened at q is in it
pub record Stored (p : List ℕ) (lay : Layout) (st : List ℕ) (q : ℕ) (row : List ℕ) : Type 0 where
  pub comes : Comes p lay st q row
  pub own : (e : Event) → site_of p lay e ≡ q → heard (row_of p st q) e ≡ true → heard row e ≡ true

pub record Claim (p : List ℕ) (lay : Layout) : Type 0 where
  -- V3
  pub sound : (es : List Event) (st : List ℕ) → Reached p lay es st → Sound p lay es st
  -- V4: the states of a list of steps are such states, and what demand 3 calls over, with everybody told, is a case of settled
  pub steps : (ts : List Step) → Reached p lay (passed p lay ts) (replay p lay ts)
  pub wider : (ts : List Step) → Over p lay ts → Settled p lay (passed p lay ts) (replay p lay ts)
  -- V4: a message is a quiet change, whatever its number
  pub message : (es : List Event) (st : List ℕ) → Reached p lay es st → (code node q : ℕ) → Quiet p lay st (simulate p lay st (message code node q)).state
  -- V9: telling the audience is enough: every run can be had so, and every run goes on to one that is settled so
  pub enough : (es : List Event) → is_run p es ≡ true →
      (passed p lay (sparing p lay es) ≡ es) × Told p lay es (replay p lay (sparing p lay es))
  pub ends : (es : List Event) → is_run p es ≡ true → (fs : List Event) × Settled p lay (es ++ fs) (replay p lay (sparing p lay (es ++ fs)))
  -- V13: a row that comes and is merged is a quiet change; the call takes it and leaves the merged row, which is what the messages of its events leave
  pub merging : (es : List Event) (st : List ℕ) → Reached p lay es st → (q : ℕ) (row : List ℕ) → Comes p lay st q row →
      Quiet p lay st (with_row p st q (merged (row_of p st q) row))
  pub by_call : (es : List Event) (st : List ℕ) → Reached p lay es st → (q : ℕ) (row : List ℕ) → Comes p lay st q row →
      merge_of p (row_of p st q) row ≡ output 0 (new_events p (row_of p st q) row) (merged (row_of p st q) row)
  pub as-messages : (es : List Event) (st : List ℕ) → Reached p lay es st → (q : ℕ) (row : List ℕ) → Comes p lay st q row →
      replay_from p lay st (row_steps p row q) ≡ with_row p st q (merged (row_of p st q) row)
  -- V13: a row that was a site's at any earlier time may come, however late
  pub late : (es fs : List Event) (st new : List ℕ) → Reached p lay es st → Reached p lay fs new → ((f : Event) → among es f ≡ true → among fs f ≡ true) →
      (q r : ℕ) → q < lay.rows → r < lay.rows → Comes p lay new q (row_of p st r)
  -- V14: a restart from a stored row is a quiet change
  pub restart : (es : List Event) (st : List ℕ) → Reached p lay es st → (q : ℕ) (row : List ℕ) → Stored p lay st q row → Quiet p lay st (with_row p st q row)

-- V3, V4, V9, V13, V14: for every accepted plan, with any layout that gives every node a row
abbrev pub LineKeeps : Type 0
LineKeeps = (p : List ℕ) → Accepted p → (lay : Layout) → Housed p lay → Claim p lay
