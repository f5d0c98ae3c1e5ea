use mathlib.Core.Path.{sym}
use native.Mathlib.Omega.{arith}
use Rattle.plan.specs.Plan.{kind_byte}
use Rattle.find_way.specs.Marks.{unseen}
use Rattle.find_way.proofs.GatherLaws.{gather-all, gather-done, gather-small, gather-room, gather-less, gather-turn}
use Rattle.find_way.proofs.gather.Goals as goal

pub overflow_mul-kind : goal.overflow_mul-kind
overflow_mul-kind c = let r = c.requires in omega (arith, r.1, r.0.accepted.few)

pub bounds-quest-v : goal.bounds-quest-v
bounds-quest-v c = let r = c.requires in omega (arith, r.1, r.0.accepted.even)

pub first_child-c-requires : goal.first_child-c-requires
first_child-c-requires c = let r = c.requires in omega (arith, r.1, r.0.accepted.few)

pub loop-c-init : goal.loop-c-init
unfolding unseen
loop-c-init c = let r = c.requires in gather-all r.0 r.1 _ c.first_child-c.ensures

pub overflow_add-place : goal.overflow_add-place
overflow_add-place c = omega (arith, gather-room c.loop-c.invariant c.loop-c-test.true)

pub allowed-ok-requires : goal.allowed-ok-requires
allowed-ok-requires c = let i = c.loop-c.invariant in omega (arith, i.within, i.given.answers)

pub bounds-table-c : goal.bounds-table-c
bounds-table-c c = omega (arith, gather-small c.loop-c.invariant c.loop-c-test.true)

pub next_sibling-c-requires : goal.next_sibling-c-requires
next_sibling-c-requires c = omega (arith, gather-small c.loop-c.invariant c.loop-c-test.true)

pub loop-c-smaller : goal.loop-c-smaller
loop-c-smaller c = rw c.next_sibling-c.ensures (gather-less c.loop-c.invariant c.loop-c-test.true)

pub loop-c-preserved : goal.loop-c-preserved
unfolding kind_byte
loop-c-preserved c = gather-turn c.loop-c.invariant c.loop-c-test.true _ _ _ _ c.allowed-ok.ensures c.unpack-m.ensures c.join-h.ensures c.next_sibling-c.ensures

pub returns : goal.returns
returns c = sym (gather-done c.loop-c.invariant c.loop-c-test.false)
