use Rattle.repeat.proofs.CopyLaws.{copy-first, copy-long, copy-end, copy-ready, copy-turn}
use Rattle.repeat.proofs.place_copies.Goals as goal

pub loop-init : goal.loop-init
loop-init c = copy-first _ _ _ _ _ _

pub place-w-requires : goal.place-w-requires
place-w-requires c = copy-ready c.requires c.loop.invariant c.loop-test.true

pub loop-preserved : goal.loop-preserved
loop-preserved c = copy-turn c.requires c.loop.invariant c.loop-test.true _ _ c.place-w.ensures

pub shape_of-out : goal.shape_of-out
shape_of-out c = copy-long c.requires c.loop.invariant

pub returns : goal.returns
returns c = copy-end c.requires c.loop.invariant c.loop-test.false
