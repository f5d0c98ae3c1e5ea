use mathlib.Core.Path.{refl, sym, ◌∙◌}
use native.Mathlib.Omega.{arith}
use Rattle.plan.specs.Plan.{size}
use Rattle.find_way.proofs.ChooseLaws.{put-long, show-none, show-empty, show-open, show-turn, show-done}
use Rattle.find_way.proofs.search.Goals as goal

pub link-links-requires : goal.link-links-requires
link-links-requires c = c.requires.0

pub fill-requires : goal.fill-requires
fill-requires c = let r = c.requires in (record { accepted = r.0; linked = c.link-links.ensures; answers = r.1 }, refl)

pub shape_of-answers-then-not-is_open : goal.shape_of-answers-then-not-is_open
shape_of-answers-then-not-is_open c = refl

pub returns-then-not-is_open : goal.returns-then-not-is_open
returns-then-not-is_open c =
    let r = c.requires in
    show-empty (record { accepted = r.0; linked = c.link-links.ensures; answers = r.1 }) r.2 c.fill.ensures (sym c.is_open.ensures ∙ c.if-not-is_open.true)

pub loop-i-init : goal.loop-i-init
loop-i-init c =
    let r = c.requires in
    (show-none (record { accepted = r.0; linked = c.link-links.ensures; answers = r.1 }) r.2 c.fill.ensures (sym c.is_open.ensures ∙ c.if-not-is_open.false), refl)

pub choose-requires : goal.choose-requires
unfolding size
choose-requires c = let h = c.loop-i.invariant.0 in (h.given, show-open h c.loop-i-test.true, h.known)

pub loop-i-smaller : goal.loop-i-smaller
loop-i-smaller c = omega (arith, c.loop-i-test.true)

pub loop-i-preserved : goal.loop-i-preserved
unfolding size
loop-i-preserved c =
    let h = c.loop-i.invariant in
    let u = c.choose.ensures in
    (show-turn h.0 c.loop-i-test.true _ _ u.0 u.1, put-long u.0 ∙ h.1)

pub shape_of-answers : goal.shape_of-answers
shape_of-answers c = c.loop-i.invariant.1

pub returns : goal.returns
unfolding size
returns c = show-done c.loop-i.invariant.0 c.loop-i-test.false _
