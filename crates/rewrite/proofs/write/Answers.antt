use mathlib.Core.Path.{◌∙◌, sym}
use native.Mathlib.Omega.{arith}
use Rattle.lists.proofs.Filling.{fill_none, fill-turn, fill_done}
use Rattle.rewrite.specs.Rewrite.{rewritten}
use Rattle.rewrite.proofs.write.Goals as goal

pub loop-i-init : goal.loop-i-init
loop-i-init c = fill_none _ _ _ c.requires

pub bounds-out-i : goal.bounds-out-i
bounds-out-i c = omega (arith, c.loop-i.invariant.long)

pub loop-i-preserved : goal.loop-i-preserved
loop-i-preserved c = fill-turn _ _ _ _ _ c.loop-i.invariant (omega arith) c.byte.ensures

pub shape_of-out : goal.shape_of-out
shape_of-out c = c.loop-i.invariant.long ∙ sym c.requires

pub returns : goal.returns
unfolding rewritten
returns c = fill_done _ _ _ _ c.loop-i.invariant (omega arith)
