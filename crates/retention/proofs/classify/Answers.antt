use mathlib.Core.Path.{◌∙◌, sym}
use native.Mathlib.Omega.{arith}
use Rattle.lists.proofs.Filling.{fill_none, fill-turn, fill_done}
use Rattle.retention.specs.Record.{record_of}
use Rattle.retention.proofs.RecordLaws.{classes-are, classes-many, classes-other}
use Rattle.retention.proofs.classify.Goals as goal

pub returns-then-n-gt160 : goal.returns-then-n-gt160
returns-then-n-gt160 c = classes-many _ _ _ _ (omega (arith, c.node_count-n.ensures))

pub returns-then-out-n : goal.returns-then-out-n
returns-then-out-n c = classes-other _ _ _ _ (λ e. c.if-out-n.true (e ∙ sym c.node_count-n.ensures))

pub loop-v-init : goal.loop-v-init
loop-v-init c = fill_none _ _ _ (c.if-out-n.false ∙ c.node_count-n.ensures)

pub bounds-out-v : goal.bounds-out-v
bounds-out-v c = omega (arith, c.loop-v.invariant.long, c.node_count-n.ensures)

pub loop-v-preserved : goal.loop-v-preserved
loop-v-preserved c = fill-turn _ _ _ _ _ c.loop-v.invariant (omega (arith, c.node_count-n.ensures)) c.class.ensures

pub shape_of-out : goal.shape_of-out
shape_of-out c = c.loop-v.invariant.long ∙ sym (c.if-out-n.false ∙ c.node_count-n.ensures)

pub returns : goal.returns
unfolding record_of
returns c =
    let d = c.before.before.before in
    let e = d.node_count-n.ensures in
    fill_done _ _ _ _ c.loop-v.invariant (omega (arith, e)) ∙ sym (classes-are _ _ _ _ (omega (arith, e)) (d.if-out-n.false ∙ e))
