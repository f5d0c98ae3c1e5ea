-- All events of a plan, as lists (rules B). Definitions only.
use Rattle.std.specs.Prelude.{List, [], ◌∷◌, map, flat_map, ℕ}
use Rattle.lists.specs.Seq.{keep, up_from}
use Rattle.plan.specs.Plan.{size}
use Rattle.event.specs.Event.{Code, start, offer, commit, abort, answered-yes, answered-no, pick, down, Event, at, applies}

-- B1: all codes there are, in rising number
unfoldable pub all_codes : List Code
all_codes = start ∷ offer ∷ commit ∷ abort ∷ answered-yes ∷ answered-no ∷ pick ∷ down ∷ []

-- B1: the events of a node, and those of all nodes, rising by node and then by code
unfoldable pub events_at : ℕ → List Event
events_at v = map (λ c. at c v) all_codes

unfoldable pub every : List ℕ → List Event
every p = flat_map events_at (up_from 0 (size p))

-- B2: the events of the plan: those of them that apply
unfoldable pub events : List ℕ → List Event
events p = keep (applies p) (every p)
