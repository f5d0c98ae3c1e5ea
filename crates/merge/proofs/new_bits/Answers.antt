-- The bits of both, less those of the first. Assumes nothing.
use Rattle.std.proofs.Common.{arith}
use Rattle.merge.proofs.ByteLaws.{new-small}
use Rattle.merge.proofs.CountLaws.{new-bits, new-few}
use Rattle.merge.proofs.new_bits.Goals as goal

pub overflow_cast-result : goal.overflow_cast-result
overflow_cast-result c = let l = new-small c.args.x c.args.y c.ranges.x.fits c.ranges.y.fits in record { fits = omega arith }

pub overflow_cast-result-2 : goal.overflow_cast-result-2
overflow_cast-result-2 c =
    let e = new-bits c.args.x c.args.y c.ranges.x.fits c.ranges.y.fits in
    record { fits = omega (arith, e, new-few c.args.x c.args.y) }

pub returns : goal.returns
returns c = let e = new-bits c.args.x c.args.y c.ranges.x.fits c.ranges.y.fits in
    record { value = e; upper_bound = omega (arith, e, new-few c.args.x c.args.y) }
