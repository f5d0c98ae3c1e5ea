-- The check, the lengths, and then the layout of the desks. Assumes nothing.
use Rattle.std.proofs.Common.{sym, ◌∙◌}
use Rattle.fault.proofs.Laws.{fault-some}
use Rattle.keeping.proofs.KeepLaws.{keeps-by, entry-bytes}
use Rattle.desk_layout.proofs.LayoutLaws.{desks-few, plan-is, prepared-laid, repeat-ready, row-short}
use Rattle.desk_calls.proofs.CallLaws.{keep-refused, same_number, kept-as, keep-tested, keep-wrong, desk-keeps}
use Rattle.desk_calls.proofs.keep.Goals as goal

pub returns-in-Err : goal.returns-in-Err
returns-in-Err c = rw c.from.ensures (keep-refused _ _ c.in-Err.ensures.number_value (fault-some _) _ _ _ _ _ _ _)

pub fits-requires : goal.fits-requires
fits-requires c = desks-few c.in_default.ensures.prepared _ c.in_default.ensures.counted

pub returns-then-not-fits-count : goal.returns-then-not-fits-count
returns-then-not-fits-count c = rw c.from-then-not-fits-count.ensures (keep-wrong _ _ _ _ _ c.in_default.ensures.prepared _ c.in_default.ensures.counted _ _ _ (rw c.fits.ensures at c.if-not-fits-count.true) _ _ _ _)

pub layout-lay-requires : goal.layout-lay-requires
layout-lay-requires c = (desks-few c.in_default.ensures.prepared _ c.in_default.ensures.counted).0

pub own_desk-own-requires : goal.own_desk-own-requires
own_desk-own-requires c = (c.in_default.ensures.prepared.accepted, c.layout-lay.ensures.0 ∙ plan-is c.in_default.ensures.prepared _ c.in_default.ensures.counted)

pub is_repeat-was-requires : goal.is_repeat-was-requires
is_repeat-was-requires c = let t = keep-tested _ _ _ _ _ c.in_default.ensures.prepared _ c.in_default.ensures.counted c.args.state.now c.args.count.now _ (rw c.fits.ensures at c.if-not-fits-count.false) in rw (c.layout-lay.ensures.0, c.layout-lay.ensures.3) (repeat-ready c.in_default.ensures.prepared _ c.in_default.ensures.counted _ t.0)

pub simulate-v-requires : goal.simulate-v-requires
simulate-v-requires c = let t = keep-tested _ _ _ _ _ c.in_default.ensures.prepared _ c.in_default.ensures.counted c.args.state.now c.args.count.now _ (rw c.fits.ensures at c.if-not-fits-count.false) in rw (c.layout-lay.ensures.0, c.layout-lay.ensures.1, c.layout-lay.ensures.3) (prepared-laid c.in_default.ensures.prepared _ c.in_default.ensures.counted _ t.0)

pub kept_by-requires : goal.kept_by-requires
kept_by-requires c = let t = keep-tested _ _ _ _ _ c.in_default.ensures.prepared _ c.in_default.ensures.counted c.args.state.now c.args.count.now _ (rw c.fits.ensures at c.if-not-fits-count.false) in record {
  code_bound = λ z. entry-bytes _ _ _ _ _ (prepared-laid c.in_default.ensures.prepared _ c.in_default.ensures.counted _ t.0) _ _ _ _ _ (rw (c.layout-lay.ensures.0, c.layout-lay.ensures.1, c.layout-lay.ensures.2, c.layout-lay.ensures.3) at c.simulate-v.ensures) (row-short c.in_default.ensures.prepared) (sym (same_number _ _ _ c.at_desk.ensures) ∙ z);
  count_lt_len = t.1;
}

pub returns : goal.returns
returns c = let t = keep-tested _ _ _ _ _ c.in_default.ensures.prepared _ c.in_default.ensures.counted c.args.state.now c.args.count.now _ (rw c.fits.ensures at c.if-not-fits-count.false) in
    let by = c.kept_by.ensures in
    rw (by.same, c.at_desk.ensures) (desk-keeps _ _ _ _ _ c.in_default.ensures.prepared _ c.in_default.ensures.counted _ t.0 _ _ _ _ c.own_desk-own.ensures _ _ t.1 _ _ _ _ _
    (keeps-by _ _ _ _ (prepared-laid c.in_default.ensures.prepared _ c.in_default.ensures.counted _ t.0) _ _ _ _ _ (rw (c.layout-lay.ensures.0, c.layout-lay.ensures.1, c.layout-lay.ensures.2, c.layout-lay.ensures.3) at c.simulate-v.ensures) _ _ t.1 _ c.is_repeat-was.ensures.value
    (λ h. (rw (c.layout-lay.ensures.0, c.layout-lay.ensures.2, c.layout-lay.ensures.3) at (c.is_repeat-was.ensures.value_2 h c.prepare.new.self.home))) _ _ _ _ (kept-as _ _ _ c.at_desk.ensures _ _ _ _ _ _ _ _ _ _ by)))
