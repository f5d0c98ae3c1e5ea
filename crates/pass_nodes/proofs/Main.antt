-- The theorems of this crate: the claims of specs/Claim.antt. Assumes nothing.
use Rattle.pass_nodes.specs.Claim.{PassByNodes, EndsUnder, MarksBelow, SameElsewhere, UnreadFree}
use Rattle.pass_nodes.proofs.EndLaws.{end-under}
use Rattle.pass_nodes.proofs.NodeLaws
use Rattle.pass_nodes.proofs.LocalLaws
use Rattle.pass_nodes.proofs.UnreadLaws

pub pass-by-nodes : PassByNodes
pass-by-nodes = NodeLaws.pass-by-nodes

pub ends-under : EndsUnder
ends-under = end-under

pub marks-below : MarksBelow
marks-below = LocalLaws.marks-below

pub same-elsewhere : SameElsewhere
same-elsewhere = LocalLaws.same-elsewhere

pub unread-free : UnreadFree
unread-free = UnreadLaws.unread-free
