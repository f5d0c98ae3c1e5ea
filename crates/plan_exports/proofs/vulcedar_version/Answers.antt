-- Assumes nothing.
use mathlib.Core.Path.{refl}
use Rattle.plan_exports.specs.Version.{version}
use Rattle.plan_exports.proofs.vulcedar_version.Goals as goal

pub returns : goal.returns
unfolding version
returns c = refl
