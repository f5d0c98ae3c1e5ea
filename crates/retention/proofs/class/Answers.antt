-- A block's class is 0, a task's that of the mark as which it counts. Assumes nothing.
use Rattle.std.proofs.Common.{◌∙◌, sym}
use Rattle.retention.proofs.TableLaws.{class-block, class-task}
use Rattle.retention.proofs.class.Goals as goal

pub returns-in-Task : goal.returns-in-Task
returns-in-Task c =
    class-task _ _ _ _ (sym c.node_kind.ensures ∙ c.in-Task.is) _ _ _ c.counts_as-mark.ensures c.from.ensures c.byte_at.ensures

pub returns-in_default : goal.returns-in_default
returns-in_default c = class-block _ _ _ _ (λ e. c.in_default.not-Task (c.node_kind.ensures ∙ e))
