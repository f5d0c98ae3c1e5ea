-- The three tests. Assumes nothing.
use Rattle.row.proofs.BarLaws.{any-three}
use Rattle.row.proofs.one_of.Goals as goal

pub returns : goal.returns
returns c = rw (c.has_bit.ensures, c.has_bit-2.ensures, c.has_bit-3.ensures) (any-three _ _ _ _)
