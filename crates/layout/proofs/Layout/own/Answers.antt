-- Without tables every number stands for itself. Assumes nothing.
use Rattle.std.proofs.Common.{[], ap, ◌∙◌}
use Rattle.layout.specs.Layout.{layout_by}
use Rattle.layout.proofs.TableLaws.{own-by-none, no-table}
use Rattle.layout.proofs.Layout.own.Goals as goal

pub returns-clause-own : goal.returns-clause-own
returns-clause-own c = ap (λ k. layout_by k []) c.node_count.ensures ∙ own-by-none _

pub returns-clause-row : goal.returns-clause-row
returns-clause-row c = no-table
