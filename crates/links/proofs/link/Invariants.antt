-- The invariant is `Linking` of proofs/LinkLaws.antt. Assumes nothing.
use Rattle.links.proofs.LinkLaws.{Linking}
use Rattle.links.proofs.link.Given as goal

abbrev pub invariant-loop-v : goal.invariant-loop-v
invariant-loop-v l = Linking l.plan l.links.first l.links.next l.v
