-- What a text gives (rules H0, J2 to J5): its number, what is printed for it and that this always fits, and the two calls. Definitions only.
use Rattle.std.specs.Prelude.{◌≡◌, false, cond, ◌&&◌, ◌||◌, not, ℕ, ◌+◌, ◌*◌, ◌/◌, ◌≤◌, ◌<◌, eqb, leb, ltb, length, get_or, take, drop, replicate, Result}
use mathlib.Core.List.{List, [], ◌∷◌, ◌++◌, flat_map, flatten}
use Rattle.lists.specs.Seq.{up_from}
use Rattle.plan.specs.Plan.{size, kind_byte}
use Rattle.plan.specs.Check.{check_number}
use Rattle.event.specs.Site.{own}
use Rattle.retention.specs.Record.{common_table, table_number, Record, record_of}
use Rattle.job.specs.Simulation.{Step, zeros, replay, numbers_from, end_marks}
use Rattle.simulation.specs.Run.{steps_of}
use Rattle.text.specs.Hex.{hex_line}
use Rattle.text.specs.Text.{has_table, plan_lines, step_lines, body_formed, well_formed, table_bytes, plan_bytes, step_bytes}
use Rattle.text.specs.Calls.{Printing, printing}
use Rattle.fault.specs.declared.Fault.{Fault}
use Rattle.fault.specs.Number.{number_of, value_of}

-- J3: a line for a number, and for a node: its number, kind, mark and class
unfoldable pub number_line : ℕ → List ℕ
number_line n = hex_line (n ∷ [])

unfoldable pub node_line : List ℕ → Record → ℕ → List ℕ
node_line p r v = hex_line (v ∷ kind_byte p v ∷ get_or r.marks v 0 ∷ get_or r.classes v 0 ∷ [])

-- J3: the steps' numbers, from a state of zeros; then the nodes, by the record of the state that the steps leave
unfoldable pub number_lines : List ℕ → List ℕ
number_lines ns = flat_map number_line ns

unfoldable pub node_lines : List ℕ → Record → List ℕ
node_lines p r = flat_map (node_line p r) (up_from 0 (size p))

unfoldable pub simulation_lines : List ℕ → List ℕ → List Step → List ℕ
simulation_lines tab p ts =
    number_lines (numbers_from p (own p) (zeros p (own p)) ts) ++ node_lines p (record_of p tab (end_marks p (own p) (replay p (own p) ts)))

-- J4: the text's own table, or the common one
unfoldable pub table_of : List ℕ → List ℕ
table_of t = cond (has_table t) (table_bytes t) common_table

-- H0, J2 to J4: a text's number: 15 where it is malformed, then its table's (21), then its plan's (1 to 6)
unfoldable pub text_number : List ℕ → ℕ
text_number t =
    cond (not (well_formed t)) 15
    (cond (not (eqb (table_number (table_of t)) 0)) (table_number (table_of t)) (check_number (plan_bytes t)))

-- J3: the lines of a text whose number is 0
unfoldable pub text_lines : List ℕ → List ℕ
text_lines t = simulation_lines (table_of t) (plan_bytes t) (steps_of (step_bytes t))

-- J3: the line of a number that is not 0 alone, else these lines
unfoldable pub number_or_lines : ℕ → List ℕ → List ℕ
number_or_lines n ls = cond (not (eqb n 0)) (number_line n) ls

-- J3, J4: what is printed for a text
unfoldable pub printed : List ℕ → List ℕ
printed t = number_or_lines (text_number t) (text_lines t)

-- J5: printed at the front of b; a buffer that is shorter than 16,384 bytes is left
unfoldable pub rehearse_into : List ℕ → List ℕ → Printing
rehearse_into t b = cond (ltb (length b) 16384) (printing 0 b) (printing (length (printed t)) (printed t ++ drop (length (printed t)) b))

-- H0, J5: what a text gives: its number, and the length of what it printed, 0 where it is refused
pub record TextResult : Type 0 where
  pub number : ℕ
  pub length : ℕ

abbrev pub text_result : Result ℕ Fault → TextResult
text_result r = record { number = number_of r; length = value_of r }

-- J5: a text as a call: its number, the length of its lines, and the buffer afterwards
pub record TextRun : Type 0 where
  pub result : TextResult
  pub out : List ℕ

abbrev pub text_run : TextResult → List ℕ → TextRun
text_run r b = record { result = r; out = b }

abbrev pub refused : ℕ → TextResult
refused n = record { number = n; length = 0 }

abbrev pub text_done : ℕ → TextResult
text_done w = record { number = 0; length = w }

-- H0, H7, J5: lines whose number is n: n, then 7 where b is shorter than 16,384 bytes, and b is left; on 0 the lines at the front of b
unfoldable pub lines_into : ℕ → List ℕ → List ℕ → TextRun
lines_into n ls b =
    cond (not (eqb n 0)) (text_run (refused n) b)
    (cond (ltb (length b) 16384) (text_run (refused 7) b) (text_run (text_done (length ls)) (ls ++ drop (length ls) b)))

unfoldable pub run_text_into : List ℕ → List ℕ → TextRun
run_text_into t b = lines_into (text_number t) (text_lines t) b

-- CLAIM (J5). Something is printed for every text, and never more than 160 lines of nodes and the numbers of as many steps as fit into a text.
abbrev pub PrintedFits : Type 0
PrintedFits = (t : List ℕ) → (0 < length (printed t)) × (length (printed t) ≤ 160 * 9 + 3 * (32768 / 7))

-- CLAIM (J4). A text without a table prints what its plan and steps give by the common one.
abbrev pub WithoutTable : Type 0
WithoutTable = (t : List ℕ) → has_table t ≡ false →
    printed t ≡ cond (not (leb (length t) 32768 && body_formed t)) (number_line 15)
    (number_or_lines (check_number (flatten (plan_lines t))) (simulation_lines common_table (flatten (plan_lines t)) (steps_of (flatten (step_lines t)))))

-- J4: the number of a table that was read into 12 bytes, by its bytes h in the text: none, or six lines; a private function's contract cites it
unfoldable pub read_number : ℕ → List ℕ → ℕ
read_number h tab = cond (eqb h 0 || eqb h 33) (table_number tab) 21

-- B5: m zeros, as in fresh rows; a private function's contract cites it
pub record AllZero (m : ℕ) (b : List ℕ) : Type 0 where
  pub long : length b ≡ m
  pub front : (n : ℕ) → n ≤ m → take n b ≡ replicate n 0
