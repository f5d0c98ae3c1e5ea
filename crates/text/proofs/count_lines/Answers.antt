-- A line more, or the last. Assumes nothing.
use Rattle.std.proofs.Common.{arith, sym, ◌∙◌}
use Rattle.text.proofs.HexLaws.{line-long}
use Rattle.text.proofs.TextLaws.{count_none, count-stop, count-more, rest-shorter}
use Rattle.text.proofs.count_lines.Goals as goal

pub loop-rest-init : goal.loop-rest-init
loop-rest-init c = count_none _ _

pub slice_bounds-rest-count : goal.slice_bounds-rest-count
slice_bounds-rest-count c = line-long _ _ (sym c.is_line.ensures ∙ c.loop-rest-test.true)

pub slice_bounds-rest-start : goal.slice_bounds-rest-start
slice_bounds-rest-start c = omega (arith, line-long _ _ (sym c.is_line.ensures ∙ c.loop-rest-test.true))

pub loop-rest-smaller : goal.loop-rest-smaller
loop-rest-smaller c = rest-shorter _ _ (sym c.is_line.ensures ∙ c.loop-rest-test.true)

pub loop-rest-preserved : goal.loop-rest-preserved
loop-rest-preserved c = count-more c.loop-rest.invariant (sym c.is_line.ensures ∙ c.loop-rest-test.true)

pub returns : goal.returns
returns c = count-stop c.loop-rest.invariant (sym c.is_line.ensures ∙ c.loop-rest-test.false)
