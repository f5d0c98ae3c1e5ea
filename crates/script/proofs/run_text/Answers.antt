-- The tests in their order; each answers what the definition has there. Assumes nothing.
use Rattle.std.proofs.Common.{arith, refl, sym}
use Rattle.fault.proofs.Laws.{fault-some}
use Rattle.text.proofs.CallLaws.{read-malformed, read-formed}
use Rattle.script.proofs.ScriptLaws.{refused-is, text-malformed, text-refused}
use Rattle.script.proofs.ReadLaws.{table-refused, many-refused, Parts, parts, steps-whole, parts-run}
use Rattle.script.proofs.run_text.Goals as goal
use Rattle.script.proofs.run_text.Lts
use Rattle.script.proofs.run_text.Tie
use Rattle.script.proofs.run_text.Reads

-- behind the tests of the table and of the plan's lines
fronts : (c : Lts.Else1 Tie.the-claims Reads.Pre Reads.Post Tie.handed_clauses) →
    Parts c.args.text.now c.read.new.table c.in-Some.counts c.read.new.plan c.read.new.steps
fronts c =
    parts (read-formed _ _ _ _ c.read.ensures c.in-Some.is) c.common_table-tab.ensures c.in_ok-check_table.ensures refl (omega arith)
    (sym c.zeros-plan.ensures.long) (sym c.zeros-steps.ensures.long)

pub returns-in_default : goal.returns-in_default
returns-in_default c =
    let f = read-malformed _ _ _ _ c.read.ensures c.in_default.is in text-refused _ _ (text-malformed _ f) (λ z. omega arith)

pub returns-in_err-check_table : goal.returns-in_err-check_table
returns-in_err-check_table c =
    rw (refused-is _ _ c.from_residual.ensures.1)
    (table-refused (read-formed _ _ _ _ c.read.ensures c.in-Some.is) c.common_table-tab.ensures c.in_err-check_table.ensures _ (fault-some _))

pub returns-then-n-gt-NODES : goal.returns-then-n-gt-NODES
returns-then-n-gt-NODES c =
    many-refused (read-formed _ _ _ _ c.read.ensures c.in-Some.is) c.common_table-tab.ensures c.in_ok-check_table.ensures refl _ (omega (arith, c.if-n-gt-NODES.true))

pub overflow_mul-b : goal.overflow_mul-b
overflow_mul-b c = let f = read-formed _ _ _ _ c.read.ensures c.in-Some.is in omega (arith, f.few)

pub slice_bounds-run_plan-end : goal.slice_bounds-run_plan-end
slice_bounds-run_plan-end c = (fronts c.before.before).plan-length

pub slice_bounds-steps-end : goal.slice_bounds-steps-end
slice_bounds-steps-end c = omega (arith, (fronts c.before.before.before).steps-few, c.read.auto.steps)

pub slice_bounds-run_plan-end-3 : goal.slice_bounds-run_plan-end-3
slice_bounds-run_plan-end-3 c = (fronts c.before.before.before.before).steps-length

pub run_plan-requires : goal.run_plan-requires
run_plan-requires c = let f = fronts c.before.before.before.before.before in
    record { tab_value = f.right; plan_len_bound = omega (arith, f.plan-length, f.plan-few); steps_len_bound = (omega (arith, f.steps-length, f.steps-few), steps-whole f) }

pub returns : goal.returns
returns c = parts-run (fronts c.before.before.before.before.before.before.before.before) _ c.run_plan.ensures
