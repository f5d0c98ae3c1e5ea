use Rattle.std.proofs.Common.{◌≡◌, ◌+◌, ◌-◌, subst, arith}
use Rattle.find_way.proofs.TableLaws.{Filling, fill-children, fill-in}
use Rattle.find_way.proofs.fill.Goals as goal

-- the table above the node in hand
above : (c : goal.In-loop-v) →
    Filling c.args.quest.plan.now c.args.quest.links.now.first c.args.quest.links.now.next c.args.front.answers.now c.args.front.fixed c.args.quest.target c.loop-v.table ((c.loop-v.v - 1) + 1)
above c =
    let t = c.loop-v-test.true in
    let e : c.loop-v.v ≡ (c.loop-v.v - 1) + 1 = omega arith in
    subst (λ v. Filling c.args.quest.plan.now c.args.quest.links.now.first c.args.quest.links.now.next c.args.front.answers.now c.args.front.fixed c.args.quest.target c.loop-v.table v) e c.loop-v.invariant

pub marks_at-requires : goal.marks_at-requires
marks_at-requires c = let f = above c in (f.given, fill-in _ f, fill-children _ f)
