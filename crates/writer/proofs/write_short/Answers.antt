-- The guard is copied from the local array, if there is room for it. Assumes nothing.
use Rattle.std.proofs.Common.{refl, ◌∙◌, ◌≤◌, arith, length}
use Rattle.event.specs.Event.{event_of}
use Rattle.guard.specs.Guard.{guard}
use Rattle.guard.specs.Bytes.{encode}
use Rattle.guard.proofs.PutLaws.{front_length, front-in}
use Rattle.guard.proofs.Short.{guard-short}
use Rattle.writer.proofs.WriteLaws.{fitted-not, fitted-done, copied}
use Rattle.writer.proofs.write_short.Goals as goal
use Rattle.writer.proofs.write_short.Lts
use Rattle.writer.proofs.write_short.Tie
use Rattle.writer.proofs.write_short.Reads

short : (c : Lts.After-fill Tie.the-claims Reads.Pre Reads.Post) → let a = c.args in length (encode (guard a.plan.now (event_of a.code a.v))) ≤ 290
short c = guard-short _ c.requires _

pub slice_bounds-fill-end : goal.slice_bounds-fill-end
slice_bounds-fill-end c = refl

pub returns-then-buf-end : goal.returns-then-buf-end
returns-then-buf-end c = fitted-not _ _ _ (omega (arith, c.fill-end.ensures.place, c.if-buf-end.true))

pub slice_bounds-local-end : goal.slice_bounds-local-end
slice_bounds-local-end c = front-in c.fill-end.ensures (short c.before.before.before)

pub slice_bounds-copy-end : goal.slice_bounds-copy-end
slice_bounds-copy-end c = front_length c.fill-end.ensures (short c.before.before.before.before)

pub copy-requires : goal.copy-requires
copy-requires c = let e = front_length c.fill-end.ensures (short c.before.before.before.before.before) in omega (arith, c.if-buf-end.false)

pub returns : goal.returns
returns c = let s = c.before.before.before.before.before.before.before.before in
    fitted-done _ _ _ (omega (arith, s.fill-end.ensures.place, c.if-buf-end.false))
    ∙ copied _ s.fill-end.ensures (short s) refl c.copy.ensures

pub overflow_cast-length : goal.overflow_cast-length
overflow_cast-length c = omega (arith, c.fill-end.ensures.place, guard-short _ c.requires (event_of c.args.code c.args.v))
