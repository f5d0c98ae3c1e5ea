-- The ranges of bytes, one by one. Assumes nothing.
use Rattle.std.proofs.Common.{arith}
use Rattle.text.proofs.HexLaws.{digit-between, is_low, is_letter, no_digit_below, no_digit_above}
use Rattle.text.proofs.is_digit.Goals as goal

pub returns-in-48-to-57 : goal.returns-in-48-to-57
returns-in-48-to-57 c = is_low _ (omega (arith, c.in-48-to-57)) (omega (arith, c.in-48-to-57))

pub returns-in-48-to-57-2 : goal.returns-in-48-to-57-2
returns-in-48-to-57-2 c = is_letter _ (omega (arith, c.in-48-to-57)) (omega (arith, c.in-48-to-57))

pub returns-in_default : goal.returns-in_default
returns-in_default c = no_digit_below _ (omega (arith, c.in_default))

pub returns-in_default-2 : goal.returns-in_default-2
returns-in_default-2 c = digit-between _ (omega (arith, c.in_default)) (omega (arith, c.in_default))

pub returns-in_default-3 : goal.returns-in_default-3
returns-in_default-3 c = no_digit_above _ (omega (arith, c.in_default))
