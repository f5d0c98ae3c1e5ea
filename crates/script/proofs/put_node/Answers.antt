-- The line of the four bytes that were read. Assumes nothing.
use Rattle.script.proofs.LineLaws.{node-put}
use Rattle.script.proofs.put_node.Goals as goal

pub returns : goal.returns
returns c = let d = c.before.before.before.before.before.before in node-put _ _ _ _ _ d.requires d.from-i.ensures d.kind-k.ensures d.byte_at-mark.ensures d.byte_at-class.ensures c.put_line.ensures
