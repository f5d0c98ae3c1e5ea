-- Runs through the function (rules E9 and E10): the bytes follow the state, and the MAIN CLAIM. Definitions only.
use Rattle.std.specs.Prelude.{◌≡◌, Bool, true, ◌&&◌, List, [], ◌∷◌, ℕ, ◌<◌, eqb, length, get_or, replicate}
use Rattle.lists.specs.Seq.{table}
use Rattle.plan.specs.Plan.{size}
use Rattle.plan.specs.Check.{Accepted}
use Rattle.event.specs.Event.{Event, code_number}
use Rattle.central.specs.Mark.{mark_number}
use Rattle.central.specs.Central.{fresh, after, allowed, is_run, reaches}
use Rattle.central.specs.Rule.{state_of, marks_after, notes_after, Ruled, rule_of, ruling_value}

-- E8, E10: an allowed event leaves bytes that stand for the state after it.
abbrev pub AdvanceExact : Type 0
AdvanceExact =
    (p marks notes : List ℕ) (e : Event) → length marks ≡ size p → length notes ≡ size p → ((v : ℕ) → get_or notes v 0 < 256) →
    allowed p (state_of marks notes) e ≡ true →
    state_of (marks_after e.code e.node marks) (notes_after e.code e.node notes) ≡ after (state_of marks notes) e

-- E10: the function, asked of an event
abbrev pub ask : List ℕ → Event → List ℕ → List ℕ → Ruled
ask p e marks notes = rule_of p (code_number e.code) e.node marks notes

-- E9: asked of each of es, on the bytes that the last answer left: each was allowed
unfoldable pub all_allowed : List ℕ → List Event → List ℕ → List ℕ → Bool
all_allowed p [] marks notes = true
all_allowed p (e ∷ es) marks notes =
    eqb (ruling_value (ask p e marks notes).ruling) 1 && all_allowed p es (ask p e marks notes).marks (ask p e marks notes).notes

-- E9: the marks and the notes that are left then
unfoldable pub marks_left : List ℕ → List Event → List ℕ → List ℕ → List ℕ
marks_left p [] marks notes = marks
marks_left p (e ∷ es) marks notes = marks_left p es (ask p e marks notes).marks (ask p e marks notes).notes

unfoldable pub notes_left : List ℕ → List Event → List ℕ → List ℕ → List ℕ
notes_left p [] marks notes = notes
notes_left p (e ∷ es) marks notes = notes_left p es (ask p e marks notes).marks (ask p e marks notes).notes

-- E1: the bytes at the beginning
abbrev pub blank_bytes : List ℕ → List ℕ
blank_bytes p = replicate (size p) 0

-- MAIN CLAIM (E9, E10). Bytes follow the state. Asked of a list's events one after another, from zeros, the function allows each just if the list
-- is a run, and then the marks are those that the run leaves, byte by byte, and the notes say its answers and picks.
pub record ReplayExact : Type 0 where
  pub advances : AdvanceExact
  pub runs : (p : List ℕ) → Accepted p → (es : List Event) → all_allowed p es (blank_bytes p) (blank_bytes p) ≡ is_run p es
  pub marks : (p : List ℕ) → Accepted p → (es : List Event) → is_run p es ≡ true →
      marks_left p es (blank_bytes p) (blank_bytes p) ≡ table (λ v. mark_number ((reaches fresh es).mark v)) (size p)
  pub state : (p : List ℕ) → Accepted p → (es : List Event) → is_run p es ≡ true →
      state_of (marks_left p es (blank_bytes p) (blank_bytes p)) (notes_left p es (blank_bytes p) (blank_bytes p)) ≡ reaches fresh es
