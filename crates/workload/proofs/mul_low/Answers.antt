-- The product fits into 64 bits. Assumes nothing.
use Rattle.workload.proofs.ProductLaws.{product-low}
use Rattle.workload.proofs.mul_low.Goals as goal

pub overflow_mul-result : goal.overflow_mul-result
overflow_mul-result c = record { fits = product-low 32 c.ranges.a.fits c.ranges.b.fits }
