use Rattle.std.proofs.Common.{◌≡◌, ◌+◌, ◌≤◌, ◌<◌, List, ℕ, sym, ◌∙◌, ap, arith, rules}
use Rattle.plan.specs.Plan.{kind_number, kind_of, size, kind_byte}
use Rattle.plan.specs.declared.kinds.Kind.{Kind}
use Rattle.next_plan.specs.Candidates.{Candidate}
use Rattle.next_plan.specs.Search.{children_needed, needed_below}
use Rattle.next_plan.proofs.CandidateLaws.{candidate-kind, candidate-ordered}
use Rattle.next_plan.proofs.DeadLaws.{needed-none, needed-turn, needed-most, dead-needed, dead-parent, dead-all}
use Rattle.next_plan.proofs.dead_front.Goals as goal

pub loop-v-init : goal.loop-v-init
loop-v-init c = sym (needed-none _)

-- with the children of v, whose byte is b
sum : {q : List ℕ} {v needed b n : ℕ} {k : Kind} → Candidate q → v < size q → needed ≡ needed_below q v → b ≡ kind_byte q v → k ≡ kind_of b → n ≡ children_needed (kind_number k) →
    needed + n ≡ needed_below q (v + 1)
sum {q} {v} {k = k} c l e b h n = needed-turn q v _ _ e (n ∙ ap (λ k. children_needed (kind_number k)) (h ∙ ap kind_of b) ∙ ap children_needed (candidate-kind q c v l))

pub overflow_add-needed : goal.overflow_add-needed
overflow_add-needed c =
    let l : c.loop-v.v < size c.args.q.now = omega (arith, c.loop-v-test.true, c.node_count-n.ensures) in
    let e = sum c.requires.0 l c.loop-v.invariant c.kind_at.ensures c.from.ensures c.children_needed-needed.ensures in
    let h : c.loop-v.needed + c.children_needed-needed.result ≤ 12 = omega (arith, e, needed-most c.args.q.now (c.loop-v.v + 1), l, c.requires.0.even, c.requires.1) in
    search (rules, h)

pub returns-then-n-needed : goal.returns-then-n-needed
returns-then-n-needed c =
    let l : c.loop-v.v < size c.args.q.now = omega (arith, c.loop-v-test.true, c.node_count-n.ensures) in
    let e = sum c.requires.0 l c.loop-v.invariant c.kind_at.ensures c.from.ensures c.children_needed-needed.ensures in
    dead-needed _ _ l (omega (arith, c.if-n-needed.true, e, c.node_count-n.ensures))

pub under_block-requires : goal.under_block-requires
under_block-requires c =
    let r = c.requires in
    let l : c.loop-v.v < size c.args.q.now = omega (arith, c.loop-v-test.true, c.node_count-n.ensures) in
    (candidate-ordered _ r.0 (omega (arith, l)) r.1, l)

pub returns-then-not-under_block : goal.returns-then-not-under_block
returns-then-not-under_block c = dead-parent _ c.requires.0 _ (omega (arith, c.loop-v-test.true, c.node_count-n.ensures)) (sym c.under_block.ensures ∙ c.if-not-under_block.true)

pub loop-v-preserved : goal.loop-v-preserved
loop-v-preserved c = sum c.requires.0 (omega (arith, c.loop-v-test.true, c.node_count-n.ensures)) c.loop-v.invariant c.kind_at.ensures c.from.ensures c.children_needed-needed.ensures

pub returns : goal.returns
returns c = dead-all _ c.requires.2
