use native.Mathlib.Omega.{arith}
use borrow.Author.Rules.{rules}
use Rattle.text.proofs.DecodeLaws.{lines-few, lines-short, lines-all, next-room, lines-room, lines-turn, lines-done}
use Rattle.text.proofs.decode.Goals as goal

pub overflow_mul-k : goal.overflow_mul-k
overflow_mul-k c = omega (arith, lines-few _ _ _ c.requires.n_value)

pub returns-then-out-k : goal.returns-then-out-k
returns-then-out-k c = lines-short _ _ _ c.requires.n_value _ c.if-out-k.true

pub loop-init : goal.loop-init
loop-init c = lines-all _ _ _ _ c.requires.n_value

pub slice_bounds-decode_line-count : goal.slice_bounds-decode_line-count
slice_bounds-decode_line-count c = c.loop.invariant.within

pub decode_line-w-requires : goal.decode_line-w-requires
decode_line-w-requires c = record { k_bound = search rules; k_in_bounds = lines-room c.loop.invariant c.loop-test.true c.if-out-k.false }

pub overflow_add-at-in-loop : goal.overflow_add-at-in-loop
overflow_add-at-in-loop c = omega (arith, next-room c.loop.invariant c.loop-test.true)

pub loop-preserved : goal.loop-preserved
loop-preserved c = lines-turn c.loop.invariant c.loop-test.true c.decode_line-w.ensures

pub shape_of-out : goal.shape_of-out
shape_of-out c = c.loop.invariant.left.long

pub returns : goal.returns
returns c = lines-done c.loop.invariant c.if-out-k.false c.loop-test.false
