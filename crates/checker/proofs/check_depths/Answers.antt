-- The check in a local array, whose front is copied out where the plan is accepted and the lent bytes fit. Assumes nothing.
use Rattle.checker.proofs.DepthsLaws.{depths-refused, depths-wrong, front-room, front_length, front_fits, depths-done}
use Rattle.std.proofs.Common.{refl, sym, ap, ◌∙◌}
use Rattle.checker.specs.Depths.{checked}
use Rattle.fault.proofs.Laws.{fault-some, handed_on}
use Rattle.checker.proofs.check_depths.Goals as goal

pub returns-in_err-check_into : goal.returns-in_err-check_into
returns-in_err-check_into c =
    depths-refused _ _ _ c.in_err-check_into.ensures.value (fault-some _) ∙ ap (checked _) (sym (handed_on _ _ c.from_residual.ensures.1))

pub returns-then-out-n : goal.returns-then-out-n
returns-then-out-n c = depths-wrong _ _ _ c.in_ok-check_into.ensures.value refl _ c.node_count-n.ensures c.if-out-n.true

pub slice_bounds-depths-end : goal.slice_bounds-depths-end
slice_bounds-depths-end c =
    let k = c.in_ok-check_into.ensures in
    front-room _ c.args.out.now _ k.value refl _ c.node_count-n.ensures _ (k.depths_after refl)

pub slice_bounds-copy-end : goal.slice_bounds-copy-end
slice_bounds-copy-end c =
    let k = c.in_ok-check_into.ensures in
    front_length _ c.args.out.now _ k.value refl _ c.node_count-n.ensures _ (k.depths_after refl)

pub copy-requires : goal.copy-requires
copy-requires c =
    let k = c.in_ok-check_into.ensures in
    front_fits _ c.args.out.now _ k.value refl _ c.node_count-n.ensures _ (k.depths_after refl) c.if-out-n.false

pub returns : goal.returns
returns c =
    let k = c.in_ok-check_into.ensures in
    depths-done _ _ _ k.value refl _ c.node_count-n.ensures _ (k.depths_after refl) c.if-out-n.false _ c.copy.ensures
