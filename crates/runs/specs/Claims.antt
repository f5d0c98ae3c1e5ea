-- THE CLAIMS: what holds of every run of the central rule, against guards, against the pass, and by itself. Each is under its rules' numbers.
-- Definitions only.
use Rattle.std.specs.Prelude.{◌≡◌, Bool, true, false, ◌&&◌, ◌||◌, not, List, ◌++◌, ℕ, ◌*◌, ◌≤◌, ◌<◌, length}
use Rattle.lists.specs.Seq.{table}
use Rattle.plan.specs.Plan.{size}
use Rattle.plan.specs.Check.{Accepted}
use Rattle.event.specs.Event.{Event, applies, among}
use Rattle.guard.specs.Guard.{guard, holds, barred}
use Rattle.central.specs.Mark.{committed, failed, turned_down, mark_number}
use Rattle.central.specs.Central.{Central, fresh, marked, started, allowed, is_run, reaches}
use Rattle.pass.specs.Pass.{pass}
use Rattle.lists.specs.Bytes.{Bytes}
use Rattle.runs.specs.Agree.{Agrees}

-- C, D, E, I11 (demand 2): after every run, where just the run's events are heard, an event that applies is not barred and its guard holds if
-- and only if the central rule allows it
abbrev pub GuardsFollowRule : Type 0
GuardsFollowRule = (p : List ℕ) → Accepted p → (es : List Event) → is_run p es ≡ true →
    (heard : Event → Bool) → ((f : Event) → heard f ≡ among es f) → (e : Event) → applies p e ≡ true →
    (not (barred p heard e) && holds heard (guard p e)) ≡ allowed p (reaches fresh es) e

-- I6: at most five events a node
abbrev pub FiveEvents : Type 0
FiveEvents = (p : List ℕ) (es : List Event) → is_run p es ≡ true → length es ≤ 5 * size p

-- I8: no event is allowed any more
abbrev pub Stuck : List ℕ → Central → Type 0
Stuck p s = (e : Event) → allowed p s e ≡ false

-- I8: every run goes on to one that is stuck
abbrev pub RunsEnd : Type 0
RunsEnd = (p : List ℕ) (es : List Event) → is_run p es ≡ true → (fs : List Event) × (is_run p (es ++ fs) ≡ true) × Stuck p (reaches fresh (es ++ fs))

-- E8: a node has ended: it is committed, failed or turned down
unfoldable pub ended : Central → ℕ → Bool
ended s v = marked s committed v || marked s failed v || marked s turned_down v

-- E, F4: in a stuck run the root is started, and every started node has ended
abbrev pub StuckEnded : Type 0
StuckEnded = (p : List ℕ) → Accepted p → (es : List Event) → is_run p es ≡ true → Stuck p (reaches fresh es) →
    (started (reaches fresh es) 0 ≡ true) × ((v : ℕ) → v < size p → started (reaches fresh es) v ≡ true → ended (reaches fresh es) v ≡ true)

-- I10: the pass accepts every list of answers that agrees with a stuck run, and writes the run's own marks
abbrev pub StuckIsPass : Type 0
StuckIsPass = (p : List ℕ) → Accepted p → (es : List Event) → is_run p es ≡ true → Stuck p (reaches fresh es) →
    (a : List ℕ) → Bytes (size p) a → Agrees p (among es) a → pass p a ≡ record { number = 0; marks = table (λ v. mark_number ((reaches fresh es).mark v)) (size p) }

-- I9: some answers agree with every run
abbrev pub AnswersAgree : Type 0
AnswersAgree = (p : List ℕ) → Accepted p → (es : List Event) → is_run p es ≡ true → (a : List ℕ) × Bytes (size p) a × Agrees p (among es) a
