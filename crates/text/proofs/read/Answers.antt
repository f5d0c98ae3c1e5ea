-- The counts, then the table and the lines behind it. Assumes nothing.
use Rattle.std.proofs.Common.{arith}
use Rattle.text.proofs.TextLaws.{body-room}
use Rattle.text.proofs.CallLaws.{read-not, told-head, told-laid, read_done}
use Rattle.text.proofs.read.Goals as goal

pub returns-in_err-counts : goal.returns-in_err-counts
returns-in_err-counts c = rw c.from_residual.ensures (read-not _ _ _ _ c.in_err-counts.ensures)

pub read_table-requires : goal.read_table-requires
read_table-requires c = told-head _ c.in_ok-counts.ensures

pub slice_bounds-read_body-count : goal.slice_bounds-read_body-count
slice_bounds-read_body-count c = omega (arith, told-head _ c.in_ok-counts.ensures, body-room c.args.text.now)

pub slice_bounds-read_body-start : goal.slice_bounds-read_body-start
slice_bounds-read_body-start c = omega (arith, told-head _ c.in_ok-counts.ensures, body-room c.args.text.now)

pub read_body-requires : goal.read_body-requires
read_body-requires c = told-laid _ c.in_ok-counts.ensures

pub returns : goal.returns
returns c = read_done _ c.in_ok-counts.ensures _ _ _ c.read_table.ensures c.read_body.ensures.plan_after c.read_body.ensures.steps_after
