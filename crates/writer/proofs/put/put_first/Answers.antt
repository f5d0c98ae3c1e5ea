use Rattle.std.proofs.Common.{ap, ◌∙◌, ◌+◌, ◌≤◌, arith, length, length-set, get_or, rules}
use Rattle.guard.specs.Put.{codes_of, each_clause}
use Rattle.lists.proofs.PutLaws.{put_one, put-length, left-all}
use Rattle.guard.proofs.PutLaws.{put_as, put_first, clause-length, first-none, first_one, first-each, first_some, each-room, each_turn, each-out}
use Rattle.writer.proofs.put.put_first.Goals as goal
use Rattle.writer.proofs.put.put_first.Lts
use Rattle.writer.proofs.put.put_first.Tie
use Rattle.writer.proofs.put.put_first.Reads

-- there is room for the clauses
behind : (c : Lts.Else2 Tie.the-claims Reads.Pre Reads.Post goal.the-invariant-loop-c goal.the-decreases-loop-c) → let a = c.args in 1 + length (each_clause (codes_of a.code a.n) a.cs.now) ≤ length a.buf.now
behind c = let s = c.before.before.before.before in omega (arith, ap length (first-each s.args.code s.args.node s.args.n s.args.more s.args.cs.now c.if-code-eq0.false c.if-n-eq0.false), s.requires.3)

pub bounds-buf-0 : goal.bounds-buf-0
bounds-buf-0 c = let s = c.before.before.before.before in omega (arith, first_some s.args.code s.args.node s.args.n s.args.more s.args.cs.now, s.requires.3)

pub returns-then-code-eq0 : goal.returns-then-code-eq0
returns-then-code-eq0 c = put_as (first-none _ _ _ _ _ c.if-code-eq0.true) (put_one _ _ _)

pub bounds-buf-0-then-n-eq0 : goal.bounds-buf-0-then-n-eq0
bounds-buf-0-then-n-eq0 c = let s = c.before.before.before.before.before in omega (arith, first_some s.args.code s.args.node s.args.n s.args.more s.args.cs.now, s.requires.3)

pub put_clause-requires : goal.put_clause-requires
put_clause-requires c = let s = c.before.before.before.before.before.before in
    let e = ap length (first_one s.args.code s.args.node s.args.n s.args.more s.args.cs.now c.if-code-eq0.false c.if-n-eq0.true) in
    (omega arith, omega arith, simp length-set (omega (arith, e, clause-length s.args.code 1 s.args.node (omega arith), s.requires.3)))

pub shape_of-buf-then-n-eq0 : goal.shape_of-buf-then-n-eq0
shape_of-buf-then-n-eq0 c = put-length c.put_clause.ensures ∙ simp length-set

pub returns-then-n-eq0 : goal.returns-then-n-eq0
returns-then-n-eq0 c = put_as (first_one _ _ _ _ _ c.if-code-eq0.false c.if-n-eq0.true) (put_first c.put_clause.ensures)

pub bounds-buf-0-2 : goal.bounds-buf-0-2
bounds-buf-0-2 c = let s = c.before.before.before.before.before in omega (arith, first_some s.args.code s.args.node s.args.n s.args.more s.args.cs.now, s.requires.3)

pub loop-c-init : goal.loop-c-init
loop-c-init c = (search rules, left-all _ _ _)

pub put_clause-w-requires : goal.put_clause-w-requires
put_clause-w-requires c = let l = c.loop-c in
    let n = c.if-n-eq0.false in
    let r = each-room l.c-index (codes_of c.args.code c.args.n) c.args.cs.now c.loop-c-test.true l.invariant.1 (rw length-set (behind c.before.before.before.before.before)) in
    (omega arith, omega arith, omega (arith, r, clause-length c.args.code c.args.n (get_or c.args.cs.now l.c-index 0) c.requires.0))

pub loop-c-preserved : goal.loop-c-preserved
loop-c-preserved c = (search rules, each_turn _ _ _ c.loop-c-test.true c.loop-c.invariant.1 c.put_clause-w.ensures)

pub shape_of-buf : goal.shape_of-buf
shape_of-buf c = c.loop-c.invariant.1.long ∙ simp length-set

pub returns : goal.returns
returns c = put_as (first-each _ _ _ _ _ c.if-code-eq0.false c.if-n-eq0.false) (put_first (each-out _ _ _ c.loop-c-test.false c.loop-c.invariant.1))
