-- The tests in order, and then the search. Assumes nothing.
use Rattle.std.proofs.Common.{refl, sym, ◌∙◌, arith}
use Rattle.fault.proofs.Laws.{fault-some, handed_on}
use Rattle.find_way.proofs.IntoLaws.{lent-refused, lent-plan, lent-long, no_node, unwanted, sought, is-wanted}
use Rattle.find_way.proofs.find_way.Goals as goal

pub returns-in_err-fit : goal.returns-in_err-fit
returns-in_err-fit c = rw (handed_on _ _ c.from_residual.ensures.1) (lent-refused _ _ _ _ _ _ _ c.node_count-n.ensures c.in_err-fit.ensures (fault-some _))

pub returns-then-n-v : goal.returns-then-n-v
returns-then-n-v c = no_node _ _ _ _ _ _ _ c.node_count-n.ensures c.in_ok-fit.ensures refl c.if-n-v.true

pub returns-then-not-can_want : goal.returns-then-not-can_want
returns-then-not-can_want c = unwanted _ _ _ _ _ _ _ c.node_count-n.ensures c.in_ok-fit.ensures refl (omega (arith, c.if-n-v.false)) (sym c.can_want.ensures ∙ c.if-not-can_want.true)

pub search-requires : goal.search-requires
search-requires c =
    let a = c.args in
    let p = a.plan.now in
    let b = a.answers.now in
    let count = c.node_count-n.ensures in
    let told = c.in_ok-fit.ensures in (
      lent-plan p 0 0 0 b _ _ count told refl,
      lent-long p 0 0 0 b _ _ count told refl,
      is-wanted p _ _ _ b _ _ count told refl (omega (arith, c.if-n-v.false)) (sym c.can_want.ensures ∙ c.if-not-can_want.false),
    )

pub returns : goal.returns
returns c =
    sought _ _ _ _ _ _ _ c.node_count-n.ensures c.in_ok-fit.ensures refl (omega (arith, c.if-n-v.false)) (sym c.can_want.ensures ∙ c.if-not-can_want.false)
    ∙ c.search.ensures
