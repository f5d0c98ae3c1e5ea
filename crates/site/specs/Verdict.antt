-- The verdict of a step or a message, and the report of every verdict: its number, its site and its rule (rules C10, H0 to H12, H16, H17 and K1).
-- Definitions only.
use Rattle.std.specs.Prelude.{ℕ}
use Rattle.site.specs.declared.PassedEvent.{PassedEvent}
use Rattle.site.specs.declared.Report.{Report}
use Rattle.site.specs.declared.Refusal.{Refusal as AnsweredRefusal}
use Rattle.site.specs.declared.Refusal.TheVariants as why
use Rattle.site.specs.declared.Verdict.{Verdict as AnsweredVerdict}
use Rattle.site.specs.declared.Verdict.TheVariants as answer

-- H1 to H12: why a call is refused: the number of the test that failed; the event is barred or its guard unmet, with the event's site; or a message
-- tells of what did not happen
pub data Refusal : Type 0 where
  Invalid : ℕ → Refusal
  Barred : ℕ → Refusal
  Unmet : ℕ → Refusal
  Untrue : Refusal

-- H16, H17: an event passed, a message passed, or a refusal
pub data Verdict : Type 0 where
  Passed : PassedEvent → Verdict
  Heard : Verdict
  Refused : Refusal → Verdict

-- H1 to H12: the same of what a call answers
abbrev pub refusal_of : AnsweredRefusal → Refusal
refusal_of (why.Invalid n) = Invalid n
refusal_of (why.Barred q) = Barred q
refusal_of (why.Unmet q) = Unmet q
refusal_of why.Untrue = Untrue

abbrev pub verdict_of : AnsweredVerdict → Verdict
verdict_of (answer.Passed e) = Passed e
verdict_of answer.Heard = Heard
verdict_of (answer.Refused r) = Refused (refusal_of r)

-- K1, K2: the three numbers of a report
abbrev pub reported : ℕ → ℕ → ℕ → Report
reported n q r = record { number = n; site = q; rule = r }

-- 0 passed: an event with its site and its rule (H16), a message with neither (H17). A refusal has its number, 1 to 9 that of the test that
-- failed; the event's site goes with 10 and 11 (K1), and no rule with any (C10)
unfoldable pub report_of : Verdict → Report
report_of (Passed e) = reported 0 e.site e.rule
report_of Heard = reported 0 0 0
report_of (Refused (Invalid n)) = reported n 0 0
report_of (Refused (Barred q)) = reported 10 q 0
report_of (Refused (Unmet q)) = reported 11 q 0
report_of (Refused Untrue) = reported 12 0 0

-- H0: its number alone
abbrev pub verdict_number : Verdict → ℕ
verdict_number v = (report_of v).number
