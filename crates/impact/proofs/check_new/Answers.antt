-- The marks go into a local array and are forgotten. Assumes nothing.
use Rattle.pass.proofs.PassLaws.{blank-size}
use Rattle.impact.proofs.ChangeLaws.{new-number-is}
use Rattle.impact.proofs.check_new.Goals as goal

pub returns : goal.returns
returns c =
    new-number-is c.args.plan.now c.args.answers.now _ _ _ _ _ c.requires
    (blank-size c.requires.accepted _ c.node_count-n.ensures) c.pass_new.ensures
