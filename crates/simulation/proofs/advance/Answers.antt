-- The layout's step, without tables. Assumes nothing.
use Rattle.simulation.specs.Run.{simulate_of}
use Rattle.simulation.proofs.advance.Goals as goal

pub simulate-requires : goal.simulate-requires
simulate-requires c = rw (c.own.ensures.plan, c.own.ensures.own) c.requires

pub returns : goal.returns
unfolding simulate_of
returns c = rw (c.own.ensures.plan, c.own.ensures.own, c.own.ensures.row) at c.simulate.ensures
