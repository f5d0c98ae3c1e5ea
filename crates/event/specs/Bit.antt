-- The bit of a code in a node's byte (rule B5). Definitions only.
use Rattle.std.specs.Prelude.{Bool, cond, ◌&&◌, ℕ, ◌+◌, ◌-◌, ◌^◌, ◌/◌, ◌%◌, eqb}
use Rattle.event.specs.Event.{is_code}

-- B5: code n is bit n - 1
unfoldable pub weight : ℕ → ℕ
weight code = 2 ^ (code - 1)

-- B5: the bit of a code is set; a number that is no code has no bit
unfoldable pub has_bit : ℕ → ℕ → Bool
has_bit b code = is_code code && eqb (b / weight code % 2) 1

-- B5, H17: the byte with that bit set; one that is set stays as it is
unfoldable pub with_bit : ℕ → ℕ → ℕ
with_bit b code = cond (has_bit b code) b (cond (is_code code) (b + weight code) b)

-- B5, L3: the byte with that bit cleared; one that is not set stays as it is
unfoldable pub without_bit : ℕ → ℕ → ℕ
without_bit b code = cond (has_bit b code) (b - weight code) b
