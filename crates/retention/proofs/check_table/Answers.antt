use mathlib.Core.Path.{refl, sym, ◌∙◌}
use native.Mathlib.Omega.{arith}
use Rattle.lists.specs.Seq.{all_below}
use Rattle.lists.proofs.Below.{below_more, below_end}
use Rattle.retention.proofs.TableLaws.{table-long, table-first, table-frame, table-right}
use Rattle.retention.proofs.check_table.Goals as goal

pub returns-then-table-ne12 : goal.returns-then-table-ne12
returns-then-table-ne12 c = table-long _ c.if-table-ne12.true

pub returns-then-table-ne0 : goal.returns-then-table-ne0
returns-then-table-ne0 c = table-first _ c.if-table-ne0.true

pub loop-i-init : goal.loop-i-init
unfolding all_below
loop-i-init c = (omega arith, refl)

pub returns-then-not-frame_ok : goal.returns-then-not-frame_ok
returns-then-not-frame_ok c = table-frame _ _ (omega arith) (sym c.frame_ok.ensures ∙ c.if-not-frame_ok.true)

pub loop-i-preserved : goal.loop-i-preserved
loop-i-preserved c = (omega arith, below_more _ _ c.loop-i.invariant.1 (sym c.frame_ok.ensures ∙ c.if-not-frame_ok.false))

pub returns : goal.returns
returns c =
    let d = c.before.before.before in
    table-right _ d.if-table-ne12.false d.if-table-ne0.false (below_end _ 6 _ c.loop-i.invariant.1 c.loop-i.invariant.0 (omega arith))
