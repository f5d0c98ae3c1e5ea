-- A guard's bytes (rule C8). Definitions only.
use Rattle.std.specs.Prelude.{List, [], ◌∷◌, ◌++◌, ℕ, length}
use Rattle.event.specs.Event.{Event, code_number}
use Rattle.guard.specs.Guard.{Guard}

-- C8: events as pairs of bytes; clauses, each behind the count of its events; a guard, behind the count of its clauses
unfoldable pub enc_events : List Event → List ℕ
enc_events [] = []
enc_events (e ∷ es) = code_number e.code ∷ e.node ∷ enc_events es

unfoldable pub enc_clauses : Guard → List ℕ
enc_clauses [] = []
enc_clauses (c ∷ cs) = length c ∷ (enc_events c ++ enc_clauses cs)

unfoldable pub encode : Guard → List ℕ
encode g = length g ∷ enc_clauses g
