use Rattle.std.proofs.Common.{ne_eqb, arith}
use Rattle.pass.specs.Values.{task_end}
use Rattle.pass.proofs.task_end.Goals as goal

pub returns-in-1-clause-value : goal.returns-in-1-clause-value
unfolding task_end
returns-in-1-clause-value c = rw c.in-1.is

pub returns-in-2-clause-value : goal.returns-in-2-clause-value
unfolding task_end
returns-in-2-clause-value c = rw c.in-2.is

pub returns-in_default-clause-value : goal.returns-in_default-clause-value
unfolding task_end
returns-in_default-clause-value c = rw (ne_eqb c.args.answer 1 (λ e. omega arith), ne_eqb c.args.answer 2 (λ e. omega arith))
