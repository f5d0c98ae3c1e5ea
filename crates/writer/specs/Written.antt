-- The guard writer (rules C8, C10, H0, H7 and H18) as one value: its answer and the buffer. Definitions only.
use Rattle.std.specs.Prelude.{true, cond, not, List, ◌++◌, ℕ, eqb, leb, length, drop, Result, Ok, Err}
use Rattle.fault.specs.declared.Fault.{Fault}
use Rattle.fault.specs.Number.{fault_number}
use Rattle.event.specs.Event.{event_of}
use Rattle.event.specs.Valid.{invalid}
use Rattle.guard.specs.Guard.{guard}
use Rattle.guard.specs.Rule.{rule_byte}
use Rattle.guard.specs.Bytes.{encode}
use Rattle.writer.specs.declared.WrittenGuard.{WrittenGuard}

-- H0, H18: the writer's answer: the guard that it wrote, or the number of the test that failed
pub data Written : Type 0 where
  Done : WrittenGuard → Written
  Refused : ℕ → Written

-- H0: the same of what a call answers, whose fault has its number
abbrev pub written_of : Result WrittenGuard Fault → Written
written_of (Ok g) = Done g
written_of (Err f) = Refused (fault_number f)

-- H0, H18: the number of every answer: 0 where a guard was written, else that of the test that failed
unfoldable pub written_number : Written → ℕ
written_number (Done g) = 0
written_number (Refused n) = n

-- H18: and the guard's length, 0 where none was written
unfoldable pub written_length : Written → ℕ
written_length (Done g) = g.length
written_length (Refused n) = 0

-- C10, H18: and the rule behind it, 0 where none was written
unfoldable pub written_rule : Written → ℕ
written_rule (Done g) = g.rule
written_rule (Refused n) = 0

-- H18: a buffer and the writer's answer
pub record Filled : Type 0 where
  pub buffer : List ℕ
  pub answer : Written

abbrev pub filled : List ℕ → Written → Filled
filled b w = record { buffer = b; answer = w }

abbrev pub written : ℕ → ℕ → WrittenGuard
written n r = record { length = n; rule = r }

-- H7, H18: x, with its rule, at the front of b, if there is room for it
unfoldable pub fitted : List ℕ → ℕ → List ℕ → Filled
fitted x rule b = cond (not (leb (length x) (length b))) (filled b (Refused 7)) (filled (x ++ drop (length x) b) (Done (written (length x) rule)))

-- H0: 1 to 6, 8, 9, then 7
unfoldable pub write_of : List ℕ → ℕ → ℕ → List ℕ → Filled
write_of p code node b =
    cond (not (eqb (invalid p true true code node) 0)) (filled b (Refused (invalid p true true code node)))
    (fitted (encode (guard p (event_of code node))) (rule_byte p (event_of code node)) b)
