-- By how the child ended, and in an xor by its place. Assumes nothing.
use Rattle.pass.specs.Pass.{child_mark}
use Rattle.pass.specs.Values.{outcome_of}
use Rattle.pass.proofs.TableLaws.{mark-picked, mark-down, mark-plain}
use Rattle.pass.proofs.child_mark.Goals as goal

pub returns-in-Breaks : goal.returns-in-Breaks
unfolding child_mark outcome_of
returns-in-Breaks c = rw c.in-Breaks.is

pub returns-then-places-answer : goal.returns-then-places-answer
returns-then-places-answer c = rw (c.in-Works.is, c.in-Xor.is) (mark-picked _ _ c.if-places-answer.true)

pub returns-else-places-answer : goal.returns-else-places-answer
returns-else-places-answer c = rw (c.in-Works.is, c.in-Xor.is) (mark-down _ _ c.if-places-answer.false)

pub returns-in_default : goal.returns-in_default
returns-in_default c = rw c.in-Works.is (mark-plain _ _ _ c.in_default.not-Xor)
