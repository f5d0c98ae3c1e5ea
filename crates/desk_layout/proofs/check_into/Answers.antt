-- Each return is the number of the first test that failed. Assumes nothing.
use Rattle.std.proofs.Common.{not, refl, ap, ◌∙◌, arith}
use Rattle.fault.proofs.Laws.{fault-some, handed_on}
use Rattle.plan.specs.Check.{check_number}
use Rattle.checker.proofs.TestLaws.{passed, failed}
use Rattle.desk_layout.proofs.PrepareLaws.{threes-few, front-is, front_length, front-room, check-1, check-plain, check-22, check-0}
use Rattle.desk_layout.proofs.check_into.Goals as goal

pub returns-then-not-length_ok-clause-number_value : goal.returns-then-not-length_ok-clause-number_value
returns-then-not-length_ok-clause-number_value c = check-1 _ (failed _ _ c.length_ok.ensures (ap not c.if-not-length_ok.true))

pub split-top-requires : goal.split-top-requires
split-top-requires c = (c.requires.0, threes-few _ (passed _ _ c.length_ok.ensures (ap not c.if-not-length_ok.false)), c.requires.1)

pub overflow_mul-n : goal.overflow_mul-n
overflow_mul-n c = omega (arith, c.node_count-n.ensures, threes-few _ (passed _ _ c.length_ok.ensures (ap not c.if-not-length_ok.false)))

pub slice_bounds-check-end : goal.slice_bounds-check-end
slice_bounds-check-end c = front-room _ _ c.split-top.ensures.two_after _ c.node_count-n.ensures

pub slice_bounds-check-end-2 : goal.slice_bounds-check-end-2
slice_bounds-check-end-2 c = front_length _ _ c.split-top.ensures.two_after _ c.node_count-n.ensures

pub returns-in_err-check-clause-number_value : goal.returns-in_err-check-clause-number_value
returns-in_err-check-clause-number_value c =
    handed_on _ _ c.from_residual.ensures.1 ∙ check-plain _ (passed _ _ c.length_ok.ensures (ap not c.if-not-length_ok.false)) _ (c.in_err-check.ensures ∙ ap check_number (front-is _ _ c.split-top.ensures.two_after _ c.node_count-n.ensures)) (fault-some _)

pub returns-then-top-le160 : goal.returns-then-top-le160
returns-then-top-le160 c = record {
  number_value = check-0 _ (passed _ _ c.length_ok.ensures (ap not c.if-not-length_ok.false)) _ (c.in_ok-check.ensures ∙ ap check_number (front-is _ _ c.split-top.ensures.two_after _ c.node_count-n.ensures)) _ c.split-top.ensures.plan_value.0 refl c.if-top-le160.true;
  two_after = (c.split-top.ensures.two_after, c.split-top.ensures.row_after, c.if-top-le160.true, c.split-top.ensures.plan_value.1);
}

pub returns-else-top-le160-clause-number_value : goal.returns-else-top-le160-clause-number_value
returns-else-top-le160-clause-number_value c =
    check-22 _ (passed _ _ c.length_ok.ensures (ap not c.if-not-length_ok.false)) _ (c.in_ok-check.ensures ∙ ap check_number (front-is _ _ c.split-top.ensures.two_after _ c.node_count-n.ensures)) c.split-top.result c.split-top.ensures.plan_value.0 refl (omega arith)
