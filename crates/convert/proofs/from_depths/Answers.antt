-- The tests in turn; the plan is written into a local array, checked, and copied out. Assumes nothing.
use Rattle.std.proofs.Common.{refl, sym, ap, ◌∙◌}
use Rattle.lists.proofs.Parts.{back_is, back-room, back-length}
use Rattle.plan.specs.Replaced.{replaced}
use Rattle.fault.proofs.Laws.{fault-some, handed_on}
use Rattle.convert.proofs.CallLaws.{from-1, from-short, from-blank, from-made, from-2, from-17, from-refused, from-long, from-done}
use Rattle.convert.proofs.from_depths.Goals as goal

pub returns-then-not-length_ok : goal.returns-then-not-length_ok
returns-then-not-length_ok c = from-1 _ _ (sym c.length_ok.ensures ∙ c.if-not-length_ok.true)

pub returns-then-not-kinds_ok : goal.returns-then-not-kinds_ok
returns-then-not-kinds_ok c = let a = sym c.length_ok.ensures ∙ c.if-not-length_ok.false in from-2 _ _ a (sym c.kinds_ok.ensures ∙ c.if-not-kinds_ok.true)

pub returns-then-not-levels_ok : goal.returns-then-not-levels_ok
returns-then-not-levels_ok c =
    let a = sym c.length_ok.ensures ∙ c.if-not-length_ok.false in
    let b = sym c.kinds_ok.ensures ∙ c.if-not-kinds_ok.false in
    from-17 _ _ a b (sym c.levels_ok.ensures ∙ c.if-not-levels_ok.true)

pub slice_bounds-plan-end : goal.slice_bounds-plan-end
slice_bounds-plan-end c = from-short _ c.args.out.now (sym c.length_ok.ensures ∙ c.if-not-length_ok.false)

pub slice_bounds-write_plan-end : goal.slice_bounds-write_plan-end
slice_bounds-write_plan-end c = sym (from-blank _ c.args.out.now (sym c.length_ok.ensures ∙ c.if-not-length_ok.false))

pub write_plan-requires : goal.write_plan-requires
write_plan-requires c =
    let a = sym c.length_ok.ensures ∙ c.if-not-length_ok.false in
    (a, sym c.levels_ok.ensures ∙ c.if-not-levels_ok.false, from-blank _ c.args.out.now a)

pub slice_bounds-plan-end-2 : goal.slice_bounds-plan-end-2
slice_bounds-plan-end-2 c = back-room (from-made _ c.args.out.now (sym c.length_ok.ensures ∙ c.if-not-length_ok.false) _ c.write_plan.ensures)

pub slice_bounds-fit-end : goal.slice_bounds-fit-end
slice_bounds-fit-end c = back-length (from-made _ c.args.out.now (sym c.length_ok.ensures ∙ c.if-not-length_ok.false) _ c.write_plan.ensures)

pub returns-in_err-fit : goal.returns-in_err-fit
returns-in_err-fit c =
    let a = sym c.length_ok.ensures ∙ c.if-not-length_ok.false in
    let b = sym c.kinds_ok.ensures ∙ c.if-not-kinds_ok.false in
    let e = sym c.levels_ok.ensures ∙ c.if-not-levels_ok.false in
    let made = back_is (from-made _ c.args.out.now a _ c.write_plan.ensures) ∙ c.write_plan.ensures in
    from-refused _ _ a b e _ made _ c.in_err-fit.ensures (fault-some _) ∙ ap (λ k. replaced k c.args.out.now) (sym (handed_on _ _ c.from_residual.ensures.1))

pub slice_bounds-plan-end-3 : goal.slice_bounds-plan-end-3
slice_bounds-plan-end-3 c = back-room (from-made _ c.args.out.now (sym c.length_ok.ensures ∙ c.if-not-length_ok.false) _ c.write_plan.ensures)

pub slice_bounds-copy_from_slice-end : goal.slice_bounds-copy_from_slice-end
slice_bounds-copy_from_slice-end c = back-length (from-made _ c.args.out.now (sym c.length_ok.ensures ∙ c.if-not-length_ok.false) _ c.write_plan.ensures)

pub copy_from_slice-requires : goal.copy_from_slice-requires
copy_from_slice-requires c =
    let a = sym c.length_ok.ensures ∙ c.if-not-length_ok.false in
    let b = sym c.kinds_ok.ensures ∙ c.if-not-kinds_ok.false in
    let e = sym c.levels_ok.ensures ∙ c.if-not-levels_ok.false in
    let back = from-made _ c.args.out.now a _ c.write_plan.ensures in
    from-long _ c.args.out.now a b e _ (back_is back ∙ c.write_plan.ensures) _ c.in_ok-fit.ensures refl ∙ back-length back

pub returns : goal.returns
returns c =
    let a = sym c.length_ok.ensures ∙ c.if-not-length_ok.false in
    let b = sym c.kinds_ok.ensures ∙ c.if-not-kinds_ok.false in
    let e = sym c.levels_ok.ensures ∙ c.if-not-levels_ok.false in
    let made = back_is (from-made _ c.args.out.now a _ c.write_plan.ensures) ∙ c.write_plan.ensures in
    from-done _ c.args.out.now a b e _ made _ c.in_ok-fit.ensures refl _ c.copy_from_slice.ensures.after
