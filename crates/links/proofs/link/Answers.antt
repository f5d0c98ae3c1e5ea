use Rattle.std.proofs.Common.{◌≡◌, ◌+◌, ◌-◌, ◌*◌, ◌<◌, List, ℕ, get_or, replicate, refl, subst, arith}
use Rattle.plan.specs.Plan.{parent}
use Rattle.plan.specs.Check.{Accepted}
use Rattle.links.proofs.LinkLaws.{Linking, LinkTurn, link-none, link-below, link-small, link-turn, link-done}
use Rattle.links.proofs.link.Goals as goal

pub loop-v-init : goal.loop-v-init
loop-v-init c = link-none _ (replicate 160 0) (replicate 160 0) c.requires refl refl

-- a turn of the loop
turn : {p first next : List ℕ} {v u : ℕ} → Accepted p → Linking p first next v → 1 < v → u ≡ get_or p (2 * (v - 1) + 1) 0 → LinkTurn p first next (v - 1) u
unfolding parent
turn {p} {first} {next} {v} ok linking later e =
    let z : v ≡ (v - 1) + 1 = omega arith in
    record { accepted = ok; so-far = subst (λ v. Linking p first next v) z linking; later = omega arith; up = e }

pub bounds-links-u : goal.bounds-links-u
bounds-links-u c = let t = turn c.requires c.loop-v.invariant c.loop-v-test.true c.from-u.ensures in omega (arith, link-below t, link-small t)

pub bounds-links-u-in-loop-v : goal.bounds-links-u-in-loop-v
bounds-links-u-in-loop-v c = let t = turn c.requires c.loop-v.invariant c.loop-v-test.true c.from-u.ensures in omega (arith, link-below t, link-small t)

pub loop-v-preserved : goal.loop-v-preserved
loop-v-preserved c = link-turn (turn c.requires c.loop-v.invariant c.loop-v-test.true c.from-u.ensures)

pub returns : goal.returns
returns c = link-done _ _ _ _ c.loop-v.invariant c.loop-v-test.false
