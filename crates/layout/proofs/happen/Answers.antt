-- A fault of the event, or the site decides on its part of the state. Assumes nothing.
use Rattle.std.proofs.Common.{sym, ap, ◌∙◌, arith}
use Rattle.event.specs.Site.{site_of}
use Rattle.fault.proofs.Laws.{fault-some}
use Rattle.layout.specs.Layout.{via, layout_by}
use Rattle.layout.proofs.StepLaws.{part-width, row-end, happen-refused, event-fine, site-below, happen-decided}
use Rattle.layout.proofs.happen.Goals as goal

pub check-requires : goal.check-requires
check-requires c = c.requires.plan.few

pub returns-in-Err : goal.returns-in-Err
returns-in-Err c = rw c.from.ensures (happen-refused _ _ _ c.requires _ _ _ c.in-Err.ensures (fault-some _))

pub overflow_cast-k : goal.overflow_cast-k
overflow_cast-k c = let f = event-fine _ _ _ c.requires _ _ (sym c.in_default.ensures) in omega (arith, f.high)

pub overflow_cast-v : goal.overflow_cast-v
overflow_cast-v c = let f = event-fine _ _ _ c.requires _ _ (sym c.in_default.ensures) in omega (arith, f.node_in, c.requires.plan.few)

pub overflow_mul-a : goal.overflow_mul-a
unfolding site_of layout_by
overflow_mul-a c =
    let below = site-below _ _ _ c.requires _ _ (sym c.in_default.ensures) _ (c.via-q.ensures ∙ ap (via _) (c.from-2.ensures ∙ c.host.ensures)) in
    let end = row-end _ _ _ c.requires c.args.code c.args.node _ _ c.node_count-n.ensures below in
    omega (arith, end)

pub overflow_add-e : goal.overflow_add-e
unfolding site_of layout_by
overflow_add-e c =
    let below = site-below _ _ _ c.requires _ _ (sym c.in_default.ensures) _ (c.via-q.ensures ∙ ap (via _) (c.from-2.ensures ∙ c.host.ensures)) in
    let end = row-end _ _ _ c.requires c.args.code c.args.node _ _ c.node_count-n.ensures below in
    omega (arith, end)

pub overflow_cast-q : goal.overflow_cast-q
unfolding site_of layout_by
overflow_cast-q c =
    let below = site-below _ _ _ c.requires _ _ (sym c.in_default.ensures) _ (c.via-q.ensures ∙ ap (via _) (c.from-2.ensures ∙ c.host.ensures)) in
    omega (arith, below, c.requires.few)

pub slice_bounds-decide-end : goal.slice_bounds-decide-end
unfolding site_of layout_by
slice_bounds-decide-end c =
    let below = site-below _ _ _ c.requires _ _ (sym c.in_default.ensures) _ (c.via-q.ensures ∙ ap (via _) (c.from-2.ensures ∙ c.host.ensures)) in
    row-end _ _ _ c.requires c.args.code c.args.node _ _ c.node_count-n.ensures below

pub decide-requires : goal.decide-requires
decide-requires c = let f = event-fine _ _ _ c.requires _ _ (sym c.in_default.ensures) in (c.requires.plan, f.node_in)

pub returns : goal.returns
unfolding site_of layout_by
returns c =
    happen-decided _ _ _ c.requires _ _ (sym c.in_default.ensures) _ (c.via-q.ensures ∙ ap (via _) (c.from-2.ensures ∙ c.host.ensures)) _ _ c.node_count-n.ensures (part-width _ _) _ _ c.decide.ensures
