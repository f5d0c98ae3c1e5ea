-- The tests, and then the layout without tables. Assumes nothing.
use Rattle.std.proofs.Common.{refl, arith}
use Rattle.fault.proofs.Laws.{fault-some}
use Rattle.keeping.proofs.KeepLaws.{keeps-by, entry-bytes}
use Rattle.keeping.proofs.OwnLaws.{keep-unfit, keep-laid, as-laid, as-wide}
use Rattle.keeping.proofs.keep.Goals as goal

pub returns-in-Err : goal.returns-in-Err
returns-in-Err c = rw c.from.ensures (keep-unfit _ _ c.node_count-n.ensures _ _ _ _ c.is_square.ensures _ c.in-Err.ensures (fault-some _) _ _ _ _)

pub is_repeat-was-requires : goal.is_repeat-was-requires
is_repeat-was-requires c =
    let l = keep-laid _ _ c.node_count-n.ensures _ _ _ _ c.is_square.ensures _ c.in_default.ensures refl in
    as-wide _ _ _ _ c.own-lay.ensures.plan c.own-lay.ensures.own _ l.0

pub simulate-v-requires : goal.simulate-v-requires
simulate-v-requires c =
    let l = keep-laid _ _ c.node_count-n.ensures _ _ _ _ c.is_square.ensures _ c.in_default.ensures refl in
    as-laid _ _ _ _ c.own-lay.ensures.plan c.own-lay.ensures.own _ l.0

pub kept_by-requires : goal.kept_by-requires
kept_by-requires c =
    let l = keep-laid _ _ c.node_count-n.ensures c.args.state.now c.args.len c.args.count.now _ c.is_square.ensures _ c.in_default.ensures refl in
    record {
      code_bound = entry-bytes _ _ _ _ _ (as-laid _ _ _ _ c.own-lay.ensures.plan c.own-lay.ensures.own _ l.0) _ _ _ _ _ c.simulate-v.ensures (rw c.own-lay.ensures.no_tables.1 (omega arith));
      count_lt_len = l.1;
    }

pub returns : goal.returns
returns c =
    let l = keep-laid _ _ c.node_count-n.ensures _ _ _ _ c.is_square.ensures _ c.in_default.ensures refl in
    λ es long. rw (c.own-lay.ensures.plan, c.own-lay.ensures.own, c.own-lay.ensures.row) at
    (keeps-by _ _ _ _ (as-laid _ _ _ _ c.own-lay.ensures.plan c.own-lay.ensures.own _ l.0) _ _ _ _ _ c.simulate-v.ensures _ _ l.1 _ c.is_repeat-was.ensures.value (λ h. c.is_repeat-was.ensures.value_2 h _) _ _ _ _ c.kept_by.ensures es long)
