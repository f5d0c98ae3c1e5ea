-- A test failed, or the site decides. Assumes nothing.
use Rattle.std.proofs.Common.{sym, ◌∙◌, arith}
use Rattle.event.specs.Site.{own, site_of}
use Rattle.fault.proofs.Laws.{fault-some}
use Rattle.site.proofs.StepLaws.{tested, step-tested, step-invalid, step-valid}
use Rattle.site.proofs.step.Goals as goal

pub returns-in-Err : goal.returns-in-Err
returns-in-Err c = rw c.from.ensures (step-invalid _ _ _ _ _ _ (tested _ _ _ _ c.in-Err.ensures c.node_count.ensures) (fault-some _))

pub overflow_cast-k : goal.overflow_cast-k
overflow_cast-k c = let k = step-tested _ _ _ _ (sym (tested _ _ _ _ c.in_default.ensures c.node_count.ensures)) in omega arith

pub overflow_cast-v : goal.overflow_cast-v
overflow_cast-v c = let k = step-tested _ _ _ _ (sym (tested _ _ _ _ c.in_default.ensures c.node_count.ensures)) in omega (arith, k.plan.few)

pub decide-requires : goal.decide-requires
decide-requires c = let k = step-tested _ _ _ _ (sym (tested _ _ _ _ c.in_default.ensures c.node_count.ensures)) in (k.plan, k.node_in)

pub returns : goal.returns
unfolding own site_of
returns c = step-valid _ _ _ _ _ (sym (tested _ _ _ _ c.in_default.ensures c.node_count.ensures)) ∙ rw (← c.host.ensures) c.decide.ensures
