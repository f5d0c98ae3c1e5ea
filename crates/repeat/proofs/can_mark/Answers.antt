-- Such a block, and one child. Assumes nothing.
use Rattle.std.proofs.Common.{◌≡◌, true, false, sym, ap, ◌∙◌}
use Rattle.plan.specs.Plan.{kind_byte}
use Rattle.template.specs.Repeat.{can_repeat, can_mark}
use Rattle.repeat.proofs.CallLaws.{kind-told}
use Rattle.repeat.proofs.can_mark.Goals as goal

pub returns-then-can_repeat : goal.returns-then-can_repeat
unfolding can_mark
returns-then-can_repeat c =
    let r = c.requires in
    let block : can_repeat (kind_byte c.args.plan.now c.args.m) ≡ true = ap can_repeat (sym (kind-told r.0 r.2 c.kind_at.ensures c.from.ensures)) ∙ sym c.can_repeat.ensures ∙ c.if-can_repeat.true in
    rw block c.one_child.ensures

pub returns-else-can_repeat : goal.returns-else-can_repeat
unfolding can_mark
returns-else-can_repeat c =
    let r = c.requires in
    let block : can_repeat (kind_byte c.args.plan.now c.args.m) ≡ false = ap can_repeat (sym (kind-told r.0 r.2 c.kind_at.ensures c.from.ensures)) ∙ sym c.can_repeat.ensures ∙ c.if-can_repeat.false in
    rw block c.if-can_repeat.false
