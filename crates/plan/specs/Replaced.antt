-- What a call comes to that writes lent bytes from end to end (rules A7, R5, R10, U5). Definitions only.
use Rattle.std.specs.Prelude.{cond, not, List, ℕ, eqb}

-- A7, R5, R10, U5: a number, 0 where the call passed, and the lent bytes
pub record Replaced : Type 0 where
  pub number : ℕ
  pub out : List ℕ

-- A7, R5, R10, U5: the same, in one line
abbrev pub replaced : ℕ → List ℕ → Replaced
replaced n out = record { number = n; out = out }

-- A7, R5, R10, U5: with another number than 0 the lent bytes are left; with 0 the new ones are there
abbrev pub replaced_by : ℕ → List ℕ → List ℕ → Replaced
replaced_by n out new = cond (not (eqb n 0)) (replaced n out) (replaced 0 new)
