-- The central rule over bytes (rule E10): the state that marks and notes stand for, how an event advances them, and the rule's answer, as
-- one value with the bytes. Definitions only.
use Rattle.std.specs.Prelude.{Bool, true, false, cond, ◌&&◌, not, List, ℕ, eqb, length, get_or, set}
use Rattle.plan.specs.Plan.{size}
use Rattle.event.specs.Event.{Code, start, offer, commit, abort, answered-yes, answered-no, pick, down, Event, code_number, event_of}
use Rattle.event.specs.Bit.{has_bit, with_bit}
use Rattle.event.specs.Valid.{invalid}
use Rattle.central.specs.Mark.{mark_number, mark_of}
use Rattle.central.specs.Central.{Answer, none, said-yes, said-no, Central, mark_after, allowed}
use Rattle.central.specs.Ruling.{Ruling, Allowed, Forbidden, Refused}

-- E10: what a note byte says: with both bits set, yes
unfoldable pub answer_of : ℕ → Answer
answer_of b = cond (has_bit b (code_number answered-yes)) said-yes (cond (has_bit b (code_number answered-no)) said-no none)

-- E10: the state that marks and notes stand for
unfoldable pub state_of : List ℕ → List ℕ → Central
state_of marks notes =
    record {
      mark = λ v. mark_of (get_or marks v 0);
      answer = λ v. answer_of (get_or notes v 0);
      picked = λ v. has_bit (get_or notes v 0) (code_number pick);
    }

-- E8: yes, no and pick are noted, and the others set the mark
unfoldable pub noted : Code → Bool
noted start = false
noted offer = false
noted commit = false
noted abort = false
noted answered-yes = true
noted answered-no = true
noted pick = true
noted down = false

-- E8: the marks after an event of v: where it is noted they stay
unfoldable pub marks_after : Code → ℕ → List ℕ → List ℕ
marks_after c v marks = cond (noted c) marks (set marks v (mark_number (mark_after c (mark_of (get_or marks v 0)))))

-- E8: the notes after an event of v: where it is noted its bit is set
unfoldable pub notes_after : Code → ℕ → List ℕ → List ℕ
notes_after c v notes = cond (noted c) (set notes v (with_bit (get_or notes v 0) (code_number c))) notes

-- E10: the answer, and the bytes as they are left
pub record Ruled : Type 0 where
  pub marks : List ℕ
  pub notes : List ℕ
  pub ruling : Ruling

abbrev pub ruled : List ℕ → List ℕ → Ruling → Ruled
ruled m n r = record { marks = m; notes = n; ruling = r }

-- H7: one byte a node each
unfoldable pub right_size : List ℕ → List ℕ → List ℕ → Bool
right_size p marks notes = eqb (length marks) (size p) && eqb (length notes) (size p)

-- H1 to H9: the number of the first test that fails
unfoldable pub rule_invalid : List ℕ → ℕ → ℕ → List ℕ → List ℕ → ℕ
rule_invalid p code node marks notes = invalid p (right_size p marks notes) true code node

-- E10, for an event of the plan that applies
unfoldable pub rule_on : List ℕ → Event → List ℕ → List ℕ → Ruled
rule_on p e marks notes =
    cond (allowed p (state_of marks notes) e) (ruled (marks_after e.code e.node marks) (notes_after e.code e.node notes) Allowed)
    (ruled marks notes Forbidden)

-- E10, H0: a refused call leaves the bytes; any other asks the rule
unfoldable pub rule_of : List ℕ → ℕ → ℕ → List ℕ → List ℕ → Ruled
rule_of p code node marks notes =
    cond (not (eqb (rule_invalid p code node marks notes) 0)) (ruled marks notes (Refused (rule_invalid p code node marks notes)))
    (rule_on p (event_of code node) marks notes)

-- H0: the number of an answer: 0 where the rule was asked, else the test that failed
unfoldable pub ruling_number : Ruling → ℕ
ruling_number Allowed = 0
ruling_number Forbidden = 0
ruling_number (Refused n) = n

-- K2: the value of an answer: 1 where the event is allowed
unfoldable pub ruling_value : Ruling → ℕ
ruling_value Allowed = 1
ruling_value Forbidden = 0
ruling_value (Refused n) = 0
