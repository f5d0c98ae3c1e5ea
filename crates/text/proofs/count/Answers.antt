-- The limit, then the text behind the table. Assumes nothing.
use native.Mathlib.Omega.{arith}
use Rattle.text.proofs.TextLaws.{body-room}
use Rattle.text.proofs.CallLaws.{counts-long, counts-body}
use Rattle.text.proofs.count.Goals as goal

pub returns-then-text-gt32768 : goal.returns-then-text-gt32768
returns-then-text-gt32768 c = counts-long _ (omega arith)

pub slice_bounds-count_body-count : goal.slice_bounds-count_body-count
slice_bounds-count_body-count c = omega (arith, c.body_at-head.ensures, body-room c.args.text.now)

pub slice_bounds-count_body-start : goal.slice_bounds-count_body-start
slice_bounds-count_body-start c = omega (arith, c.body_at-head.ensures, body-room c.args.text.now)

pub returns : goal.returns
returns c = counts-body _ (omega arith) c.body_at-head.ensures c.count_body.ensures
