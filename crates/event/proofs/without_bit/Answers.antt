-- Where the bit is set its weight is taken off, and the byte has it. Assumes nothing.
use mathlib.Core.Path.{◌≡◌, sym, ◌∙◌}
use mathlib.Core.Bool.{true}
use Prim.Native.Nat.{◌*◌, ◌-◌, ◌^◌, ◌%◌, ◌≤◌}
use native.Mathlib.Omega.{arith}
use Rattle.event.specs.Bit.{weight, has_bit, without_bit}
use Rattle.event.proofs.BitLaws.{bit-code, shift-weight, bit-weight}
use Rattle.event.proofs.without_bit.Goals as goal
use Rattle.event.proofs.without_bit.Lts
use Rattle.event.proofs.without_bit.Tie
use Rattle.event.proofs.without_bit.Reads

is_set : (c : Lts.Else1 Tie.the-claims Reads.Pre Reads.Post) → has_bit c.args.b c.args.code ≡ true
is_set c = sym c.has_bit.ensures ∙ c.if-not-has_bit.false

is_code : (c : Lts.Else1 Tie.the-claims Reads.Pre Reads.Post) → (1 ≤ c.args.code) × (c.args.code ≤ 8)
is_code c = bit-code c.args.b c.args.code (is_set c)

pub returns-then-not-has_bit : goal.returns-then-not-has_bit
unfolding without_bit
returns-then-not-has_bit c = rw (sym c.has_bit.ensures ∙ c.if-not-has_bit.true)

pub overflow_sub-result : goal.overflow_sub-result
overflow_sub-result c = (is_code c).0

pub overflow_shl-result : goal.overflow_shl-result
overflow_shl-result c = omega (arith, (is_code c).1)

shifted : (c : Lts.Else1 Tie.the-claims Reads.Pre Reads.Post) → 1 * 2 ^ (c.args.code - 1) % 256 ≡ weight c.args.code
shifted c = let s = c.before.before in shift-weight s.args.b s.args.code s.ranges.b.fits (is_code c).0 (is_code c).1

pub overflow_sub-result-2 : goal.overflow_sub-result-2
overflow_sub-result-2 c = let s = c.before.before in rw (shifted c) (bit-weight s.args.b s.args.code s.ranges.b.fits (is_code c).0 (is_code c).1 (is_set c))

pub returns : goal.returns
unfolding without_bit
returns c = rw (is_set c, shifted c)
