-- The ranges of bytes, one by one. Assumes nothing.
use Rattle.std.proofs.Common.{arith, sym}
use Rattle.text.proofs.HexLaws.{digit-between, no_digit_below, no_digit_above, digit_not, value_low, value_letter}
use Rattle.text.proofs.value.Goals as goal

pub returns-in-48-to-57 : goal.returns-in-48-to-57
returns-in-48-to-57 c = value_low _ (omega (arith, c.in-48-to-57)) (omega (arith, c.in-48-to-57))

pub returns-in-97-to-102 : goal.returns-in-97-to-102
returns-in-97-to-102 c = value_letter _ (omega (arith, c.in-97-to-102)) (omega (arith, c.in-97-to-102))

pub returns-in_default : goal.returns-in_default
returns-in_default c = digit_not _ (sym (no_digit_below _ (omega (arith, c.in_default))))

pub returns-in_default-2 : goal.returns-in_default-2
returns-in_default-2 c = digit_not _ (sym (digit-between _ (omega (arith, c.in_default)) (omega (arith, c.in_default))))

pub returns-in_default-3 : goal.returns-in_default-3
returns-in_default-3 c = digit_not _ (sym (no_digit_above _ (omega (arith, c.in_default))))
