-- A fault of the event, or a message that reads the byte of the event's own site and sets one of the told row. Assumes nothing.
use Rattle.std.proofs.Common.{sym, ap, ◌∙◌, arith}
use Rattle.event.specs.Site.{site_of}
use Rattle.fault.proofs.Laws.{fault-some}
use Rattle.layout.specs.Layout.{via, layout_by}
use Rattle.layout.proofs.StepLaws.{row-spot, tell-refused, message-fine, told_below, home_below, tell-false, tell-done}
use Rattle.layout.proofs.tell.Goals as goal

pub check-requires : goal.check-requires
check-requires c = c.requires.plan.few

pub returns-in-Err : goal.returns-in-Err
unfolding layout_by
returns-in-Err c = rw c.from.ensures (tell-refused _ _ _ c.requires _ _ _ _ c.in-Err.ensures (fault-some _))

pub overflow_cast-code : goal.overflow_cast-code
unfolding layout_by
overflow_cast-code c = let f = message-fine _ _ _ c.requires _ _ _ (sym c.in_default.ensures) in omega (arith, f.high)

pub overflow_cast-node : goal.overflow_cast-node
unfolding layout_by
overflow_cast-node c = let f = message-fine _ _ _ c.requires _ _ _ (sym c.in_default.ensures) in omega (arith, f.node_in, c.requires.plan.few)

pub overflow_mul-h : goal.overflow_mul-h
unfolding site_of layout_by
overflow_mul-h c =
    let none = sym c.in_default.ensures in
    let f = message-fine _ _ _ c.requires _ _ _ none in
    let below = home_below _ _ _ c.requires _ _ _ none _ _ c.node_count-n.ensures (c.via-h.ensures ∙ ap (via _) (c.from-2.ensures ∙ c.host.ensures)) in
    let spot = row-spot _ _ _ c.requires c.args.code _ _ _ c.node_count-n.ensures below f.node_in in
    omega (arith, spot)

pub overflow_add-h : goal.overflow_add-h
unfolding site_of layout_by
overflow_add-h c =
    let none = sym c.in_default.ensures in
    let f = message-fine _ _ _ c.requires _ _ _ none in
    let below = home_below _ _ _ c.requires _ _ _ none _ _ c.node_count-n.ensures (c.via-h.ensures ∙ ap (via _) (c.from-2.ensures ∙ c.host.ensures)) in
    let spot = row-spot _ _ _ c.requires c.args.code _ _ _ c.node_count-n.ensures below f.node_in in
    omega (arith, spot)

pub bounds-state-h : goal.bounds-state-h
unfolding site_of layout_by
bounds-state-h c =
    let none = sym c.in_default.ensures in
    let f = message-fine _ _ _ c.requires _ _ _ none in
    let below = home_below _ _ _ c.requires _ _ _ none _ _ c.node_count-n.ensures (c.via-h.ensures ∙ ap (via _) (c.from-2.ensures ∙ c.host.ensures)) in
    let spot = row-spot _ _ _ c.requires c.args.code _ _ _ c.node_count-n.ensures below f.node_in in
    omega (arith, spot)

pub overflow_cast-code-2 : goal.overflow_cast-code-2
unfolding layout_by
overflow_cast-code-2 c = let f = message-fine _ _ _ c.requires _ _ _ (sym c.in_default.ensures) in omega (arith, f.high)

pub returns-then-not-has_bit : goal.returns-then-not-has_bit
unfolding site_of layout_by
returns-then-not-has_bit c =
    tell-false _ _ _ c.requires _ _ _ (sym c.in_default.ensures) _ _ c.node_count-n.ensures (c.via-h.ensures ∙ ap (via _) (c.from-2.ensures ∙ c.host.ensures)) (sym c.has_bit.ensures ∙ c.if-not-has_bit.true)

pub overflow_mul-at : goal.overflow_mul-at
unfolding layout_by
overflow_mul-at c =
    let none = sym c.in_default.ensures in
    let f = message-fine _ _ _ c.requires _ _ _ none in
    let spot = row-spot _ _ _ c.requires c.args.code _ _ _ c.node_count-n.ensures (told_below _ _ _ c.requires _ _ _ none) f.node_in in
    omega (arith, spot)

pub overflow_add-at : goal.overflow_add-at
unfolding layout_by
overflow_add-at c =
    let none = sym c.in_default.ensures in
    let f = message-fine _ _ _ c.requires _ _ _ none in
    let spot = row-spot _ _ _ c.requires c.args.code _ _ _ c.node_count-n.ensures (told_below _ _ _ c.requires _ _ _ none) f.node_in in
    omega (arith, spot)

pub bounds-state-at : goal.bounds-state-at
unfolding layout_by
bounds-state-at c =
    let none = sym c.in_default.ensures in
    let f = message-fine _ _ _ c.requires _ _ _ none in
    let spot = row-spot _ _ _ c.requires c.args.code _ _ _ c.node_count-n.ensures (told_below _ _ _ c.requires _ _ _ none) f.node_in in
    omega (arith, spot)

pub overflow_cast-code-3 : goal.overflow_cast-code-3
unfolding layout_by
overflow_cast-code-3 c = let f = message-fine _ _ _ c.requires _ _ _ (sym c.in_default.ensures) in omega (arith, f.high)

pub bounds-state-at-2 : goal.bounds-state-at-2
unfolding layout_by
bounds-state-at-2 c =
    let none = sym c.in_default.ensures in
    let f = message-fine _ _ _ c.requires _ _ _ none in
    let spot = row-spot _ _ _ c.requires c.args.code _ _ _ c.node_count-n.ensures (told_below _ _ _ c.requires _ _ _ none) f.node_in in
    omega (arith, spot)

pub returns : goal.returns
unfolding site_of layout_by
returns c =
    tell-done _ _ _ c.requires _ _ _ (sym c.in_default.ensures) _ _ c.node_count-n.ensures (c.via-h.ensures ∙ ap (via _) (c.from-2.ensures ∙ c.host.ensures)) (sym c.has_bit.ensures ∙ c.if-not-has_bit.false) _ c.with_bit.ensures
