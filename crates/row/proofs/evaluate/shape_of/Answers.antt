-- The table's line, with v's neighbour where the guard goes by it. Assumes nothing.
use Rattle.std.proofs.Common.{◌≡◌, sym, ap, ◌∙◌, true}
use Rattle.event.specs.Event.{code_of}
use Rattle.plan.specs.Plan.{kind, above}
use Rattle.guard.specs.Family.{named_nodes, neighbour, names_one}
use Rattle.guard.proofs.NamedLaws.{named-family, one-family, one-low, shape-by-one}
use Rattle.lists.proofs.Logic.{clash}
use Rattle.row.proofs.evaluate.shape_of.Goals as goal
use Rattle.row.proofs.evaluate.shape_of.Goals.{then-names_one, else-names_one}
use Rattle.row.proofs.evaluate.shape_of.Lts
use Rattle.row.proofs.evaluate.shape_of.Tie
use Rattle.row.proofs.evaluate.shape_of.Reads

-- the neighbour, where the guard goes by it
neighbour-is : (c : Lts.Joined1 Tie.the-claims Reads.Pre Reads.Post) → let a = c.args in
    names_one (code_of a.code) (kind a.plan.now a.v) (above a.plan.now a.v) ≡ true →
    c.if-names_one.b ≡ neighbour (code_of a.code) a.v (named_nodes a.plan.now (code_of a.code) a.v)
neighbour-is c one = let a = c.args in
    let k = code_of a.code in
    let low = one-low a.code _ _ one in
    elim c.if-names_one.branch [ then-names_one w ↦ w.b-is ∙ w.neighbour-b.ensures low.0 low.1 ∙ ap (neighbour k a.v) (sym (named-family a.plan.now k a.v (one-family k _ _ one))) | else-names_one w ↦ clash _ one (sym c.names_one.ensures ∙ w.if-names_one.false) ]

pub returns : goal.returns
returns c = let k = c.before.before.before.before.before in
    shape-by-one _ _ _ c.kind.ensures c.above.ensures (k.from-u.ensures ∙ k.parent.ensures) c.from.ensures
    (neighbour-is k.before.before) c.shape_of.ensures
