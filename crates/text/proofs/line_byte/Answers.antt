-- The definition; two digits' values are below 256 together. Assumes nothing.
use native.Mathlib.Omega.{arith}
use Rattle.text.proofs.HexLaws.{value-small}
use Rattle.text.proofs.DecodeLaws.{byte-by}
use Rattle.text.proofs.line_byte.Goals as goal

pub overflow_mul-result : goal.overflow_mul-result
overflow_mul-result c = omega (arith, c.value.ensures, value-small c.byte_at.result)

pub overflow_add-result : goal.overflow_add-result
overflow_add-result c =
    omega (arith, c.value-2.ensures, value-small c.byte_at-2.result, c.value.ensures, value-small c.byte_at.result)

pub returns : goal.returns
returns c = byte-by _ _ c.byte_at.ensures c.value.ensures c.byte_at-2.ensures c.value-2.ensures
