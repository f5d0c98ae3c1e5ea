-- The record by the common table. Assumes nothing.
use mathlib.Core.Path.{sym, ap, ◌∙◌}
use Rattle.desks.specs.Calls.{desk_record_by_into}
use Rattle.desk_calls.proofs.record.Goals as goal

pub returns : goal.returns
returns c = let s = c.args in ap (λ tab. desk_record_by_into s.plan.now tab s.state.now s.marks.now s.classes.now) (sym c.common_table-tab.ensures) ∙ c.record_by.ensures
