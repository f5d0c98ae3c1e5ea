-- Each return is the first test that failed, or the guard, written straight where there is room for every guard. Assumes nothing.
use Rattle.std.proofs.Common.{sym, ◌∙◌, arith}
use Rattle.std.proofs.lemmas.Result.{err_from_is_err_and}
use Rattle.event.specs.Event.{event_of}
use Rattle.event.proofs.ValidLaws.{valid}
use Rattle.fault.proofs.Laws.{fault-some}
use Rattle.guard.proofs.RuleLaws.{rule-small}
use Rattle.guard.proofs.Short.{guard-short}
use Rattle.writer.proofs.WriteLaws.{write-invalid, write-valid, straight}
use Rattle.writer.proofs.write_guard.Goals as goal

pub returns-in_err-validate : goal.returns-in_err-validate
returns-in_err-validate c = let p = err_from_is_err_and c.from_residual.result c.from_residual.ensures.1 in
    rw (p.1, p.2) (write-invalid _ _ _ _ c.in_err-validate.ensures (fault-some _))

pub overflow_cast-k : goal.overflow_cast-k
overflow_cast-k c = let v = valid _ _ _ _ _ (sym c.in_ok-validate.ensures) in omega arith

pub overflow_cast-v : goal.overflow_cast-v
overflow_cast-v c = let v = valid _ _ _ _ _ (sym c.in_ok-validate.ensures) in omega (arith, v.plan.few)

pub overflow_cast-rule : goal.overflow_cast-rule
overflow_cast-rule c = let v = valid _ _ _ _ _ (sym c.in_ok-validate.ensures) in omega (arith, c.rule_number-rule.ensures, rule-small v.plan v.node_in c.args.code)

pub write_short-requires : goal.write_short-requires
write_short-requires c = (valid _ _ _ _ _ (sym c.in_ok-validate.ensures)).plan

pub returns-then-buf-lt-LONGEST : goal.returns-then-buf-lt-LONGEST
returns-then-buf-lt-LONGEST c = write-valid _ _ _ _ c.rule_number-rule.ensures (sym c.in_ok-validate.ensures) ∙ c.write_short.ensures

pub fill-length-requires : goal.fill-length-requires
fill-length-requires c = ((valid _ _ _ _ _ (sym c.in_ok-validate.ensures)).plan, omega (arith, c.if-buf-lt-LONGEST.false))

pub returns : goal.returns
returns c = let v = valid _ _ _ _ _ (sym c.in_ok-validate.ensures) in
    write-valid _ _ _ _ c.rule_number-rule.ensures (sym c.in_ok-validate.ensures)
    ∙ straight _ _ c.fill-length.ensures (omega (arith, guard-short _ v.plan (event_of c.args.code c.args.node), c.if-buf-lt-LONGEST.false))

pub overflow_cast-length : goal.overflow_cast-length
overflow_cast-length c = let v = valid _ _ _ _ _ (sym c.in_ok-validate.ensures) in
    omega (arith, c.fill-length.ensures.place, guard-short _ v.plan (event_of c.args.code c.args.node))
