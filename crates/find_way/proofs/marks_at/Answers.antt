-- The children's part, the three answers that count, and the kind. Assumes nothing.
use mathlib.Core.Path.{◌∙◌, ap}
use native.Mathlib.Omega.{arith}
use Rattle.plan.specs.Plan.{kind_byte}
use Rattle.find_way.specs.Marks.{packed}
use Rattle.find_way.proofs.GatherLaws.{marks-known}
use Rattle.find_way.proofs.marks_at.Goals as goal

pub gather-h-requires : goal.gather-h-requires
gather-h-requires c = let r = c.requires in (r.0, r.1)

pub allowed-zero-requires : goal.allowed-zero-requires
allowed-zero-requires c = let r = c.requires in omega (arith, r.1, r.0.answers)

pub allowed-one-requires : goal.allowed-one-requires
allowed-one-requires c = let r = c.requires in omega (arith, r.1, r.0.answers)

pub allowed-two-requires : goal.allowed-two-requires
allowed-two-requires c = let r = c.requires in omega (arith, r.1, r.0.answers)

pub overflow_mul-v : goal.overflow_mul-v
overflow_mul-v c = let r = c.requires in omega (arith, r.1, r.0.accepted.few)

pub bounds-quest-v : goal.bounds-quest-v
bounds-quest-v c = let r = c.requires in omega (arith, r.1, r.0.accepted.even)

pub returns : goal.returns
unfolding kind_byte
returns c =
    let r = c.requires in
    c.pack.ensures ∙ ap packed (marks-known c.args.quest.plan.now c.args.quest.links.now.first c.args.quest.links.now.next c.args.front.answers.now c.args.front.fixed c.args.quest.target c.args.table.now c.args.v r.0 r.1 r.2 _ _ _ _ _ c.gather-h.ensures c.allowed-zero.ensures c.allowed-one.ensures c.allowed-two.ensures c.finish-m.ensures)
