-- Results for C (rules K). Definitions only.
use Rattle.std.specs.Prelude.{◌≡◌, List, ℕ, ◌+◌, ◌*◌}
use Rattle.plan.specs.Made.{Made}
use Rattle.guard.specs.Rule.{FoundRule}
use Rattle.writer.specs.Written.{Written}
use Rattle.writer.specs.Written.{written_number, written_rule, written_length}
use Rattle.site.specs.declared.Report.{Report}
use Rattle.site.specs.Verdict.{Verdict}
use Rattle.site.specs.Verdict.{report_of}
use Rattle.central.specs.Rule.{ruling_number, ruling_value}
use Rattle.central.specs.Ruling.{Ruling}
use Rattle.script.specs.Script.{TextResult}
use Rattle.journal.specs.declared.Entry.{Entry}
use Rattle.journal.specs.Journal.{Kept, Undone}
use Rattle.points.specs.Points.{Naming}
use Rattle.rewind.specs.Return.{Returned}

-- K1: the number in bits 0 to 7, the event's site in bits 8 to 15, a value in bits 16 to 31
abbrev pub result_of : ℕ → ℕ → ℕ → ℕ
result_of n q v = n + 256 * q + 65536 * v

-- K2, S8: the number of nodes of the plan that was written is the value
unfoldable pub of_made : Made → ℕ
of_made a = result_of a.number 0 a.nodes

-- K2: the guard's length is the value; its rule stands where there is no site
unfoldable pub of_written : Written → ℕ
of_written w = result_of (written_number w) (written_rule w) (written_length w)

-- K2: the rule is the value
unfoldable pub of_found_rule : FoundRule → ℕ
of_found_rule r = result_of r.number 0 r.rule

-- K1, K2: a verdict's number and site, and its rule as the value
unfoldable pub of_report : Report → ℕ
of_report r = result_of r.number r.site r.rule

abbrev pub of_verdict : Verdict → ℕ
of_verdict v = of_report (report_of v)

-- K1, K2: a ruling's number, and whether the event is allowed as the value
unfoldable pub of_ruling : Ruling → ℕ
of_ruling r = result_of (ruling_number r) 0 (ruling_value r)

-- K4: the length printed is the value
unfoldable pub of_text : TextResult → ℕ
of_text r = result_of r.number 0 r.length

-- L2, L9: what a kept step answers and leaves
pub record AsKept (a : Kept) (answer : ℕ) (st : List ℕ) (es : List Entry) (k : ℕ) : Type 0 where
  pub told : answer ≡ of_verdict a.step.verdict
  pub state : st ≡ a.step.state
  pub entries : es ≡ a.entries
  pub count : k ≡ a.count

-- L3, L9: what a take-back answers and leaves; the entries stay, since they are lent to be read only
pub record AsUndone (a : Undone) (answer : ℕ) (st : List ℕ) (k : ℕ) : Type 0 where
  pub told : answer ≡ result_of a.number 0 0
  pub state : st ≡ a.state
  pub count : k ≡ a.count

-- M3, M11: what a naming answers and leaves
pub record AsNamed (a : Naming) (answer : ℕ) (ns ps : List ℕ) : Type 0 where
  pub told : answer ≡ result_of a.number 0 0
  pub names : ns ≡ a.left.names
  pub places : ps ≡ a.left.places

-- M5, M6, M11: what a take-back with points, or a going back, answers and leaves; the entries stay, since they are lent to be read only
pub record AsReturned (a : Returned) (answer : ℕ) (st : List ℕ) (k : ℕ) (ns ps : List ℕ) : Type 0 where
  pub told : answer ≡ result_of a.number 0 0
  pub state : st ≡ a.state
  pub count : k ≡ a.count
  pub names : ns ≡ a.left.names
  pub places : ps ≡ a.left.places
