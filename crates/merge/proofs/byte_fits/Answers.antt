-- By the definition. Assumes nothing.
use Rattle.std.proofs.Common.{rules}
use Rattle.merge.specs.Bytes.{byte_fits}
use Rattle.merge.proofs.byte_fits.Goals as goal

pub returns : goal.returns
unfolding byte_fits
returns c = search rules
