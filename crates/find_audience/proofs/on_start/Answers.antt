-- By the kind of v. Assumes nothing.
use Rattle.find_audience.specs.Whom.{whom_list}
use Rattle.find_audience.proofs.WhomLaws.{start-turn, start_none, start-all}
use Rattle.find_audience.proofs.on_start.Goals as goal

pub returns-in-Task : goal.returns-in-Task
unfolding whom_list
returns-in-Task c = start_none _ _ c.node_kind.ensures c.in-Task.is _

pub next-requires : goal.next-requires
next-requires c = c.requires.0.few

pub returns-in-Serial : goal.returns-in-Serial
unfolding whom_list
returns-in-Serial c = start-turn _ _ c.node_kind.ensures c.requires.0 c.requires.1 c.in-Serial.is _ c.next.ensures

pub returns-in-And : goal.returns-in-And
unfolding whom_list
returns-in-And c = start-all _ _ c.node_kind.ensures c.in-And.is _
