use Rattle.std.proofs.Common.{◌≡◌, refl, sym, ap, ◌∙◌, true, arith, eq-eqb, ne_eqb, eqb, rules}
use Rattle.lists.specs.Seq.{all}
use Rattle.lists.proofs.Any.{any_found, any-on, any_out}
use Rattle.plan.specs.Plan.{size, parent}
use Rattle.row.specs.Evaluate.{clause_holds}
use Rattle.row.proofs.EvaluateLaws.{children-from, all-fails, all-on, all-skip, all-out}
use Rattle.row.proofs.evaluate.clauses_hold.Goals as goal
use Rattle.row.proofs.evaluate.clauses_hold.Lts
use Rattle.row.proofs.evaluate.clauses_hold.Tie
use Rattle.row.proofs.evaluate.clauses_hold.Reads

-- a turn that has not been skipped is that of a child
own : (c : Lts.Else1 Tie.the-claims Reads.Pre Reads.Post goal.the-invariant-loop-code goal.the-decreases-loop-code goal.the-invariant-clause goal.the-decreases-clause) → let t = c.before.before.before in let a = t.args in
    eqb (parent a.plan.now t.clause.child) a.u ≡ true
unfolding parent
own c = eq-eqb _ _ c.if-plan-child.false

pub clause-init : goal.clause-init
clause-init c = (refl, ap (all _) (children-from _ _ _ c.node_count-n.ensures))

pub overflow_mul-child : goal.overflow_mul-child
unfolding size
overflow_mul-child c = omega (arith, c.node_count-n.ensures)

pub overflow_add-child : goal.overflow_add-child
unfolding size
overflow_add-child c = omega (arith, c.node_count-n.ensures)

pub bounds-plan-child : goal.bounds-plan-child
unfolding size
bounds-plan-child c = omega (arith, c.node_count-n.ensures)

pub clause-preserved-then-plan-child : goal.clause-preserved-then-plan-child
unfolding parent
clause-preserved-then-plan-child c = let t = c.before.before.before in
    (t.clause.invariant.0, all-skip _ _ _ _ t.clause.invariant.1 t.clause-test.true (ne_eqb _ _ c.if-plan-child.true))

pub loop-code-init : goal.loop-code-init
loop-code-init c = (search rules, refl)

pub clause-preserved : goal.clause-preserved
unfolding clause_holds
clause-preserved c = let l = c.before.before.before.before.before in
    let t = l.before.before.before in (
      t.clause.invariant.0,
      all-on _ _ _ _ t.clause.invariant.1 t.clause-test.true (own l.before)
          (any_found _ _ _ _ l.loop-code.invariant.1 c.loop-code-test.true (sym c.heard.ensures ∙ c.if-heard.true)),
    )

pub loop-code-preserved : goal.loop-code-preserved
loop-code-preserved c = let l = c.before.before.before.before.before in
    (search rules, any-on _ _ _ _ l.loop-code.invariant.1 c.loop-code-test.true (sym c.heard.ensures ∙ c.if-heard.false))

pub returns-after-clause : goal.returns-after-clause
returns-after-clause c = let i = c.clause.invariant in i.0 ∙ sym (all-out _ _ _ _ i.1 c.clause-test.false)

pub returns-after-loop-code : goal.returns-after-loop-code
unfolding clause_holds
returns-after-loop-code c = let l = c.before.before in
    let t = l.before.before.before in
    sym (all-fails _ _ _ _ t.clause.invariant.1 t.clause-test.true (own l.before) (any_out _ _ _ _ l.loop-code.invariant.1 c.loop-code-test.false))
