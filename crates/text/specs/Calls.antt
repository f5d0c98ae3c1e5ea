-- The public functions as values (rules J1 to J4): each is the answer and every lent byte afterwards. Definitions only.
use Rattle.std.specs.Prelude.{◌≡◌, cond, List, ◌++◌, ℕ, ◌+◌, ◌*◌, ◌≤◌, leb, length, drop, Option, Some, None}
use Rattle.std.proofs.lemmas.List.Edits.{sets}
use Rattle.text.specs.Hex.{hex_line}
use Rattle.text.specs.Text.{body_at, body, plan_lines, step_lines, body_formed, well_formed, table_bytes, plan_bytes, step_bytes}
use Rattle.text.specs.declared.Counts.{Counts}

-- J1, J4: what is counted of a well-formed text: the bytes before its plan, which are those of the table, and its numbers of lines; of a malformed one nothing
abbrev pub counted : ℕ → ℕ → ℕ → Option Counts
counted h n m = Some (record { head = h; plan = n; steps = m })

abbrev pub malformed : Option Counts
malformed = None

-- J2, J4: of a text b behind a table of h bytes; and of a whole text
unfoldable pub body_counts : ℕ → List ℕ → Option Counts
body_counts h b = cond (body_formed b) (counted h (length (plan_lines b)) (length (step_lines b))) malformed

unfoldable pub counts_of : List ℕ → Option Counts
counts_of t = cond (well_formed t) (counted (body_at t) (length (plan_lines (body t))) (length (step_lines (body t)))) malformed

-- J1, J4: bytes x that were read, at the front of a buffer b, where there is room for them
unfoldable pub in_front : List ℕ → List ℕ → List ℕ
in_front x b = cond (leb (length x) (length b)) (x ++ drop (length x) b) b

-- J1: n plan lines and m step lines stand in b; a private function's contract cites it
pub record Laid (b : List ℕ) (n m : ℕ) : Type 0 where
  pub plan : n ≡ length (plan_lines b)
  pub steps : m ≡ length (step_lines b)
  pub room : 5 * n + 3 ≤ length b

-- J1, J2, J4: a text's counts, and the bytes of the table, the plan and the steps in three buffers; a malformed text leaves all
pub record Reading : Type 0 where
  pub counts : Option Counts
  pub table : List ℕ
  pub plan : List ℕ
  pub steps : List ℕ

abbrev pub reading : Option Counts → List ℕ → List ℕ → List ℕ → Reading
reading c h p s = record { counts = c; table = h; plan = p; steps = s }

unfoldable pub read_into : List ℕ → List ℕ → List ℕ → List ℕ → Reading
read_into t h p s =
    cond (well_formed t) (reading (counts_of t) (in_front (table_bytes t) h) (in_front (plan_bytes t) p) (in_front (step_bytes t) s)) (reading (counts_of t) h p s)

-- J3: a line in a buffer, and the place behind it
pub record Printing : Type 0 where
  pub place : ℕ
  pub buffer : List ℕ

abbrev pub printing : ℕ → List ℕ → Printing
printing w b = record { place = w; buffer = b }

-- J3: the line of bs from w on; where there is no room for it nothing is written and the place stays
unfoldable pub line_into : List ℕ → List ℕ → ℕ → Printing
line_into bs b w = cond (leb (w + length (hex_line bs)) (length b)) (printing (w + length (hex_line bs)) (sets b w (hex_line bs))) (printing w b)
