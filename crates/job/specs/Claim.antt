-- THE MAIN CLAIM: what the simulation promises (rules I), demand 3 whole, and demand 2 as the simulation meets it. Each field stands under
-- its rule. All of it is about the bytes that steps leave, which are those that the crate simulation promises, and about any layout of rows.
-- Definitions only.
use Rattle.std.specs.Prelude.{◌≡◌, true, false, List, ◌++◌, ◌↔◌, ◌⊎◌, ℕ, ◌*◌, ◌≤◌, ◌<◌, length}
use Rattle.plan.specs.Plan.{size}
use Rattle.plan.specs.Check.{Accepted}
use Rattle.event.specs.Event.{code_number, Event, event_of, among, applies}
use Rattle.event.specs.Site.{Layout, own, Housed, site_of}
use Rattle.guard.specs.Guard.{guard, holds, barred}
use Rattle.central.specs.Central.{Central, fresh, allowed, is_run, reaches}
use Rattle.pass.specs.Pass.{pass}
use Rattle.retention.specs.Record.{record_of}
use Rattle.row.specs.Row.{heard}
use Rattle.site.specs.Verdict.{verdict_number}
use Rattle.site.specs.Step.{step_at}
use Rattle.lists.specs.Bytes.{Bytes}
use Rattle.runs.specs.Agree.{Agrees}
use Rattle.job.specs.Simulation.{row_of, Step, message, simulate, step_number, replay_from, passed_from, replay, passed, heard_at, mark_at, end_marks}

-- B3, I2: the row where e happens, after the steps ts
unfoldable pub row_at : List ℕ → Layout → List Step → Event → List ℕ
row_at p lay ts e = row_of p (replay p lay ts) (site_of p lay e)

-- E9, I4: what the central rule has after the run that the steps ts made
unfoldable pub central_after : List ℕ → Layout → List Step → Central
central_after p lay ts = reaches fresh (passed p lay ts)

-- I3: site q has heard all of the list's events
abbrev pub Informed : List ℕ → Layout → List Step → ℕ → Type 0
Informed p lay ts q = (e : Event) → among (passed p lay ts) e ≡ true → among (heard_at p lay q ts) e ≡ true

-- I8: the job is over
pub record Over (p : List ℕ) (lay : Layout) (ts : List Step) : Type 0 where
  pub informed : (q : ℕ) → q < lay.rows → Informed p lay ts q
  pub still : (e : Event) → applies p e ≡ true → (barred p (heard (row_at p lay ts e)) e ≡ true) ⊎ (holds (heard (row_at p lay ts e)) (guard p e) ≡ false)

pub record Claim (p : List ℕ) (lay : Layout) : Type 0 where
  -- I1
  pub state : (ts : List Step) → Bytes (lay.rows * size p) (replay p lay ts)
  -- I2: a refused step leaves the state
  pub refused : (st : List ℕ) (t : Step) → (step_number p lay st t ≡ 0 → ⊥) → (simulate p lay st t).state ≡ st
  -- I2: a repeated message changes nothing
  pub repeat : (st : List ℕ) (code node q : ℕ) → heard (row_of p st q) (event_of code node) ≡ true → (simulate p lay st (message code node q)).state ≡ st
  -- I3: a site's row has just what the site has heard
  pub set-if-heard : (ts : List Step) (q : ℕ) → q < lay.rows → (e : Event) → heard (row_of p (replay p lay ts) q) e ≡ among (heard_at p lay q ts) e
  -- I4: the events of every list are a run; and those of a prefix are the first of them
  pub run : (ts : List Step) → is_run p (passed p lay ts) ≡ true
  pub prefix-events : (ts us : List Step) → passed p lay (ts ++ us) ≡ passed p lay ts ++ passed_from p lay (replay p lay ts) us
  pub prefix-state : (ts us : List Step) → replay p lay (ts ++ us) ≡ replay_from p lay (replay p lay ts) us
  -- I5
  pub mark : (ts : List Step) (v : ℕ) → v < size p → mark_at p lay (replay p lay ts) v ≡ (central_after p lay ts).mark v
  -- I6
  pub few : (es : List Event) → is_run p es ≡ true → length es ≤ 5 * size p
  -- I7
  pub had : (es : List Event) → is_run p es ≡ true → (ts : List Step) × (passed p lay ts ≡ es) × ((q : ℕ) → q < lay.rows → Informed p lay ts q)
  -- I10: the pass accepts agreeing answers, and its record is the end record, by every table
  pub accepts : (ts : List Step) → Over p lay ts → (a : List ℕ) → Bytes (size p) a → Agrees p (among (passed p lay ts)) a → (pass p a).number ≡ 0
  pub same-record : (ts : List Step) → Over p lay ts → (a : List ℕ) → Bytes (size p) a → Agrees p (among (passed p lay ts)) a →
      (tab : List ℕ) → record_of p tab (pass p a).marks ≡ record_of p tab (end_marks p lay (replay p lay ts))
  -- I8, I9: neither premise of I10 is empty. Every run goes on to one whose job is over, and some answers agree with every run
  pub ends : (es : List Event) → is_run p es ≡ true → (fs : List Event) × (ts : List Step) × (passed p lay ts ≡ es ++ fs) × Over p lay ts
  pub agreed : (es : List Event) → is_run p es ≡ true → (a : List ℕ) × Bytes (size p) a × Agrees p (among es) a
  -- I11: demand 2, for every event, one that does not apply too
  pub faithful : (ts : List Step) (e : Event) → Informed p lay ts (site_of p lay e) →
      (verdict_number (step_at p (site_of p lay e) (code_number e.code) e.node (row_at p lay ts e)).verdict ≡ 0) ↔ (allowed p (central_after p lay ts) e ≡ true)

-- THE CLAIM OF DEMAND 3 (I1 to I11): for every accepted plan, with any layout that gives every node a row
abbrev pub Demand3 : Type 0
Demand3 = (p : List ℕ) → Accepted p → (lay : Layout) → Housed p lay → Claim p lay

-- B4: each node its own row
abbrev pub OwnDemand3 : Type 0
OwnDemand3 = (p : List ℕ) → Accepted p → Claim p (own p)
