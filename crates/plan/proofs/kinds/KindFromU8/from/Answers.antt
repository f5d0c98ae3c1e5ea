use Rattle.std.proofs.Common.{rules, arith, sym}
use Rattle.plan.specs.Plan.{kind_of}
use Rattle.plan.proofs.KindLaws.{kind-other}
use Rattle.plan.proofs.kinds.KindFromU8.from.Goals as goal

pub returns-in-2 : goal.returns-in-2
unfolding kind_of
returns-in-2 c = search rules

pub returns-in-3 : goal.returns-in-3
unfolding kind_of
returns-in-3 c = search rules

pub returns-in-4 : goal.returns-in-4
unfolding kind_of
returns-in-4 c = search rules

pub returns-in-5 : goal.returns-in-5
unfolding kind_of
returns-in-5 c = search rules

pub returns-in-6 : goal.returns-in-6
unfolding kind_of
returns-in-6 c = search rules

pub returns-in-7 : goal.returns-in-7
unfolding kind_of
returns-in-7 c = search rules

pub returns-in-8 : goal.returns-in-8
unfolding kind_of
returns-in-8 c = search rules

pub returns-in_default : goal.returns-in_default
returns-in_default c = sym (kind-other _ (λ l h. omega arith))
