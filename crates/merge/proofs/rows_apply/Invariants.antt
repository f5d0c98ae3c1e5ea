-- Below v each byte has events that apply alone, in either row. Assumes nothing.
use Rattle.std.proofs.Common.{◌≡◌, true, get_or, bit_or}
use Rattle.lists.specs.Seq.{all_below}
use Rattle.merge.specs.Bytes.{byte_applies}
use Rattle.merge.proofs.rows_apply.Given as goal

abbrev pub invariant-loop-v : goal.invariant-loop-v
invariant-loop-v l = all_below (λ w. byte_applies l.plan w (bit_or (get_or l.row w 0) (get_or l.other w 0))) l.v ≡ true
