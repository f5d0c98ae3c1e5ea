-- What a call comes to that writes a plan to the front of lent bytes (rules S6, S8, T6, T7). Definitions only.
use Rattle.std.specs.Prelude.{List, ◌++◌, ℕ, length, drop}

-- S6, S8, T6, T7: a number, 0 where a plan was written; its number of nodes; and the lent bytes
pub record Made : Type 0 where
  pub number : ℕ
  pub nodes : ℕ
  pub out : List ℕ

-- S6, S8, T6, T7: the same, in one line
abbrev pub made : ℕ → ℕ → List ℕ → Made
made k n out = record { number = k; nodes = n; out = out }

-- S6, T6: the plan q at the front of the lent bytes, and those behind it as they were
unfoldable pub in_front : List ℕ → List ℕ → List ℕ
in_front q out = q ++ drop (length q) out
