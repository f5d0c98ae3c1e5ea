-- There is no room, or the line is written. Assumes nothing.
use Rattle.std.proofs.Common.{arith}
use Rattle.text.proofs.PrintLaws.{line-not, line-put}
use Rattle.text.proofs.put_line.Goals as goal
use Rattle.text.proofs.put_line.Goals.{then-out-at-via-then-out-at, then-out-at-via-else-out-at+then-out-at-2}

pub returns-then-out-at : goal.returns-then-out-at
returns-then-out-at c =
    elim c.then-out-at.branch [ then-out-at-via-then-out-at w ↦ line-not _ _ _ (omega arith) | then-out-at-via-else-out-at+then-out-at-2 w ↦ line-not _ _ _ (omega arith) ]

pub returns : goal.returns
returns c = line-put _ _ _ (omega arith) c.write_line.ensures
