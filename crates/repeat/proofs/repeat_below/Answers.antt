-- The tests; what passes them is written. Assumes nothing.
use Rattle.std.proofs.Common.{◌≡◌, Bool, true, ℕ, ◌<◌, List, sym, ◌∙◌, arith}
use Rattle.plan.specs.Plan.{size}
use Rattle.plan.specs.Check.{Accepted}
use Rattle.trees.specs.Tree.{trees_below, node_count}
use Rattle.template.specs.Repeat.{can_mark}
use Rattle.template.specs.Call.{times_ok}
use Rattle.template.proofs.CallLaws.{mark-told, by-mark, by_count, times-told}
use Rattle.repeat.proofs.CallLaws.{Counted, counted-few, nodes-no, root-ready, repeat-done}
use Rattle.repeat.proofs.repeat_below.Goals as goal

pub returns-then-not-can_mark : goal.returns-then-not-can_mark
returns-then-not-can_mark c = let r = c.requires in by-mark _ _ _ c.args.out.now r.0 r.2 r.1 (sym c.can_mark.ensures ∙ c.if-not-can_mark.true)

pub returns-then-not-times_ok : goal.returns-then-not-times_ok
returns-then-not-times_ok c =
    let r = c.requires in
    let h = mark-told _ _ r.0 r.1 (sym c.can_mark.ensures ∙ c.if-not-can_mark.false) in
    by_count _ _ _ c.args.out.now h r.2 (sym c.times_ok.ensures ∙ c.if-not-times_ok.true)

pub overflow_sub-nodes : goal.overflow_sub-nodes
overflow_sub-nodes c = omega (arith, (times-told _ (sym c.times_ok.ensures ∙ c.if-not-times_ok.false)).0)

-- behind these tests all is counted: a and b are what they answered
counted : {p : List ℕ} {m r n l : ℕ} {a b : Bool} → Accepted p → m < size p → a ≡ can_mark p m → a ≡ true → b ≡ times_ok r → b ≡ true → n ≡ size p → l ≡ node_count (trees_below p m) → Counted p m r n l
counted ok node e f g h nodes below = record { template = mark-told _ _ ok node (sym e ∙ f); times = times-told _ (sym g ∙ h); nodes = nodes; below = below }

pub overflow_mul-nodes : goal.overflow_mul-nodes
overflow_mul-nodes c =
    let r = c.requires in
    omega (arith, counted-few (counted r.0 r.1 c.can_mark.ensures c.if-not-can_mark.false c.times_ok.ensures c.if-not-times_ok.false c.node_count.ensures c.count_below.ensures))

pub overflow_add-nodes : goal.overflow_add-nodes
overflow_add-nodes c =
    let r = c.requires in
    omega (arith, counted-few (counted r.0 r.1 c.can_mark.ensures c.if-not-can_mark.false c.times_ok.ensures c.if-not-times_ok.false c.node_count.ensures c.count_below.ensures))

pub returns-then-nodes-gt160 : goal.returns-then-nodes-gt160
returns-then-nodes-gt160 c =
    let r = c.requires in
    nodes-no (counted r.0 r.1 c.can_mark.ensures c.if-not-can_mark.false c.times_ok.ensures c.if-not-times_ok.false c.node_count.ensures c.count_below.ensures) c.args.out.now r.2 c.if-nodes-gt160.true

pub place_repeated-requires : goal.place_repeated-requires
place_repeated-requires c =
    let r = c.requires in
    let h = counted r.0 r.1 c.can_mark.ensures c.if-not-can_mark.false c.times_ok.ensures c.if-not-times_ok.false c.node_count.ensures c.count_below.ensures in
    (h.template, root-ready h c.if-nodes-gt160.false c.link-links.ensures c.args.out.now r.2)

pub returns : goal.returns
returns c =
    let r = c.requires in
    let h = counted r.0 r.1 c.can_mark.ensures c.if-not-can_mark.false c.times_ok.ensures c.if-not-times_ok.false c.node_count.ensures c.count_below.ensures in
    repeat-done h c.if-nodes-gt160.false c.args.out.now _ _ r.2 c.place_repeated.ensures
