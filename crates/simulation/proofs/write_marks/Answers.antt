-- The layout's marks, without tables. Assumes nothing.
use Rattle.simulation.proofs.write_marks.Goals as goal

pub write_marks-requires : goal.write_marks-requires
write_marks-requires c = rw (c.own.ensures.plan, c.own.ensures.own) c.requires

pub returns : goal.returns
returns c = rw (c.own.ensures.plan, c.own.ensures.own) at c.write_marks.ensures
