-- What may happen to the rows of a job beside its events, and the states that a job can get into so (rules V). Definitions only.
use Rattle.std.specs.Prelude.{◌≡◌, true, List, [], ◌∷◌, ◌++◌, ℕ, ◌*◌}
use Rattle.lists.specs.Bytes.{Bytes}
use Rattle.plan.specs.Plan.{size}
use Rattle.event.specs.Event.{Event, event_of}
use Rattle.event.specs.Site.{Layout, site_of}
use Rattle.row.specs.Row.{heard}
use Rattle.job.specs.Simulation.{row_of, event, simulate, step_number, zeros}

-- V1: every event of the row is in some row of the state
abbrev pub True : List ℕ → List ℕ → List ℕ → Type 0
True p st row = (e : Event) → heard row e ≡ true → (r : ℕ) × (heard (row_of p st r) e ≡ true)

-- V1: a quiet change, from the rows of st to those of new: no row gets an event that no row had, and no site loses an event that happened at it
pub record Quiet (p : List ℕ) (lay : Layout) (st new : List ℕ) : Type 0 where
  pub bytes : Bytes (lay.rows * size p) new
  pub nothing-new : (q : ℕ) → True p st (row_of p new q)
  pub own-kept : (e : Event) → heard (row_of p st (site_of p lay e)) e ≡ true → heard (row_of p new (site_of p lay e)) e ≡ true

-- V2: a job can get to the state st with the events es: from zeros, by events that pass and by quiet changes, in any order
pub data Reached (p : List ℕ) (lay : Layout) : List Event → List ℕ → Type 0 where
  begin : Reached p lay [] (zeros p lay)
  happens : {es : List Event} {st : List ℕ} → Reached p lay es st → (code node : ℕ) → step_number p lay st (event code node) ≡ 0 →
      Reached p lay (es ++ (event_of code node ∷ [])) (simulate p lay st (event code node)).state
  changes : {es : List Event} {st new : List ℕ} → Reached p lay es st → Quiet p lay st new → Reached p lay es new
