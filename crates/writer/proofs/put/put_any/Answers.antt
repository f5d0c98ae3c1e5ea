use Rattle.std.proofs.Common.{◌≡◌, ◌∙◌, ◌+◌, ◌≤◌, arith, length, length-set, rules}
use Rattle.guard.specs.Put.{any_pairs}
use Rattle.lists.proofs.PutLaws.{left-all}
use Rattle.guard.proofs.PutLaws.{any_none, any-behind, any-room, any-turn, any_out}
use Rattle.writer.proofs.put.put_any.Goals as goal
use Rattle.writer.proofs.put.put_any.Lts
use Rattle.writer.proofs.put.put_any.Reads

-- there is room for the clause, and at each turn for two bytes
behind : (c : Lts.Else1 Reads.Pre Reads.Post goal.the-invariant-loop-c goal.the-decreases-loop-c) → let a = c.args in a.at + 1 + length (any_pairs a.code a.cs.now) ≤ length a.buf.now
behind c = any-behind _ _ _ _ c.if-code-eq0.false c.requires.1

room : (c : Lts.In-loop Reads.Pre Reads.Post goal.the-invariant-loop-c goal.the-decreases-loop-c) → c.loop-c.w + 2 ≤ length c.loop-c.buf
room c = any-room _ _ _ c.loop-c-test.true c.loop-c.invariant.1 (rw length-set (behind c.before.before))

kept : (c : Lts.In-loop Reads.Pre Reads.Post goal.the-invariant-loop-c goal.the-decreases-loop-c) → length c.loop-c.buf ≡ length c.args.buf.now
kept c = c.loop-c.invariant.1.long ∙ simp length-set

pub returns-then-code-eq0 : goal.returns-then-code-eq0
returns-then-code-eq0 c = any_none _ _ _ _ c.if-code-eq0.true

pub bounds-buf-at : goal.bounds-buf-at
bounds-buf-at c = omega (arith, behind c.before)

pub overflow_add-w : goal.overflow_add-w
overflow_add-w c = omega (arith, behind c.before)

pub loop-c-init : goal.loop-c-init
loop-c-init c = (search rules, left-all _ _ _)

pub bounds-buf-w : goal.bounds-buf-w
bounds-buf-w c = omega (arith, room c.before.before)

pub overflow_add-buf : goal.overflow_add-buf
overflow_add-buf c = omega (arith, room c.before.before, kept c.before.before)

pub bounds-buf-w-in-loop-c : goal.bounds-buf-w-in-loop-c
bounds-buf-w-in-loop-c c = rw length-set (omega (arith, room c.before.before))

pub overflow_add-w-in-loop-c : goal.overflow_add-w-in-loop-c
overflow_add-w-in-loop-c c = omega (arith, room c.before.before, kept c.before.before)

pub loop-c-preserved : goal.loop-c-preserved
loop-c-preserved c = (search rules, any-turn _ _ _ c.loop-c-test.true c.loop-c.invariant.1)

pub shape_of-buf : goal.shape_of-buf
shape_of-buf c = c.loop-c.invariant.1.long ∙ simp length-set

pub returns : goal.returns
returns c = any_out _ _ _ _ c.if-code-eq0.false c.loop-c-test.false c.loop-c.invariant.1
