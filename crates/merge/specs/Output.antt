-- What a call comes to that answers a number and a value and writes lent bytes, and bytes put to the front of them (rules H0, K2). Definitions only.
use Rattle.std.specs.Prelude.{cond, not, List, ℕ, leb, length}
use Rattle.plan.specs.Made.{in_front}

-- H0, K2: a number, 0 where the call passed; its value; and the lent bytes
pub record Output : Type 0 where
  pub number : ℕ
  pub value : ℕ
  pub out : List ℕ

-- H0, K2: the same, in one line
abbrev pub output : ℕ → ℕ → List ℕ → Output
output n k out = record { number = n; value = k; out = out }

-- V10, H7: bytes at the front of the lent ones, and those behind them as they were, with the value k; and 7 where there is no room for them
unfoldable pub put_front : ℕ → List ℕ → List ℕ → Output
put_front k x out = cond (not (leb (length x) (length out))) (output 7 0 out) (output 0 k (in_front x out))
