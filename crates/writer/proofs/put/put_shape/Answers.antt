-- The first bytes, and behind them the last clause. Assumes nothing.
use Rattle.std.proofs.Common.{◌≡◌, sym, ◌∙◌, ◌≤◌, arith}
use Rattle.guard.specs.Put.{more_of}
use Rattle.lists.proofs.PutLaws.{put-length}
use Rattle.guard.proofs.PutLaws.{more-none, more-some, shape-length, shape-put}
use Rattle.writer.proofs.put.put_shape.Goals as goal
use Rattle.writer.proofs.put.put_shape.Goals.{then-s-eq0, else-s-eq0}
use Rattle.writer.proofs.put.put_shape.Lts
use Rattle.writer.proofs.put.put_shape.Tie
use Rattle.writer.proofs.put.put_shape.Reads

more-is : (c : Lts.Joined1 Tie.the-claims Reads.Pre Reads.Post) → c.if-s-eq0.more ≡ more_of c.args.s.any
more-is c = elim c.if-s-eq0.branch [ then-s-eq0 w ↦ w.more-is ∙ sym (more-none _ w.if-s-eq0.true) | else-s-eq0 w ↦ w.more-is ∙ sym (more-some _ w.if-s-eq0.false) ]

more-few : (c : Lts.Joined1 Tie.the-claims Reads.Pre Reads.Post) → c.if-s-eq0.more ≤ 1
more-few c = elim c.if-s-eq0.branch [ then-s-eq0 w ↦ omega arith | else-s-eq0 w ↦ omega arith ]

pub put_first-w-requires : goal.put_first-w-requires
put_first-w-requires c = let s = c.before.before.before.before.before.before.before in
    (s.requires.1, more-few c.before.before.before, s.requires.2, omega (arith, shape-length s.args.s s.args.cs.now (more-is c.before.before.before), s.requires.3))

pub put_any-requires : goal.put_any-requires
put_any-requires c = let s = c.before.before.before.before.before.before.before.before.before.before.before in
    let h = c.put_first-w.ensures in
    (s.requires.2, omega (arith, shape-length s.args.s s.args.cs.now (more-is c.before.before.before.before.before.before.before), s.requires.3, h.place, put-length h))

pub returns : goal.returns
returns c = shape-put _ _ (more-is c.before.before.before.before.before.before.before.before.before.before) c.put_first-w.ensures c.put_any.ensures
