use Rattle.std.proofs.Common.{◌≡◌, true, false, sym, refl, ◌∙◌, length, Result, Ok, Err, arith, rules}
use Rattle.std.specs.Result.{is_ok}
use Rattle.fault.specs.declared.Fault.{Fault}
use Rattle.fault.specs.Number.{number_of}
use Rattle.fault.proofs.Laws.{fault-some}
use Rattle.next_plan.proofs.SearchLaws.{going-first, going-ready, sought, sought-less, sought-room, sought-long, sought-over, sought-found, refused-ready, going_on}
use Rattle.next_plan.proofs.search.Goals as goal

pub loop-m-init : goal.loop-m-init
loop-m-init c = let r = c.requires in going-first _ _ r.0 r.1 r.2

pub follow-m-requires : goal.follow-m-requires
follow-m-requires c = going-ready c.loop-m.invariant

pub shape_of-q-then-m-gt10 : goal.shape_of-q-then-m-gt10
shape_of-q-then-m-gt10 c = let long : length c.follow-m.new.q ≡ 12 = search (rules, c.loop-m.invariant.long) in long ∙ sym c.requires.0

pub returns-then-m-gt10 : goal.returns-then-m-gt10
returns-then-m-gt10 c =
    let e = c.follow-m.ensures in
    let long : length c.follow-m.new.q ≡ 12 = search (rules, c.loop-m.invariant.long) in
    sought-over _ _ _ (sought c.loop-m.invariant _ _ long e.0 e.1) c.if-m-gt10.true

pub slice_bounds-check-end : goal.slice_bounds-check-end
slice_bounds-check-end c =
    let e = c.follow-m.ensures in
    let long : length c.follow-m.new.q ≡ 12 = search (rules, c.loop-m.invariant.long) in
    sought-room _ _ _ (sought c.loop-m.invariant _ _ long e.0 e.1)

pub slice_bounds-check-end-in-loop-m : goal.slice_bounds-check-end-in-loop-m
slice_bounds-check-end-in-loop-m c =
    let e = c.follow-m.ensures in
    let long : length c.follow-m.new.q ≡ 12 = search (rules, c.loop-m.invariant.long) in
    sought-long _ _ _ (sought c.loop-m.invariant _ _ long e.0 e.1)

pub loop-m-smaller : goal.loop-m-smaller
loop-m-smaller c =
    let e = c.follow-m.ensures in
    let long : length c.follow-m.new.q ≡ 12 = search (rules, c.loop-m.invariant.long) in
    sought-less c.loop-m.invariant _ _ long e.0 e.1

pub loop-m-preserved : goal.loop-m-preserved
loop-m-preserved c =
    let e = c.follow-m.ensures in
    let long : length c.follow-m.new.q ≡ 12 = search (rules, c.loop-m.invariant.long) in
    going_on _ _ _ (sought c.loop-m.invariant _ _ long e.0 e.1) (omega (arith, c.if-m-gt10.false)) c.requires.2.accepted.some _ c.dead_front-k.ensures

-- the check's answer, by whether it passed
passes : {T : Type 0} (r : Result T Fault) → is_ok r ≡ true → number_of r ≡ 0
passes (Ok x) e = refl
passes (Err f) e = cc

fails : {T : Type 0} (r : Result T Fault) → is_ok r ≡ false → number_of r ≡ 0 → ⊥
fails (Ok x) e z = cc
fails (Err f) e z = fault-some f z

pub returns-then-is_ok : goal.returns-then-is_ok
returns-then-is_ok c =
    let e = c.follow-m.ensures in
    let long : length c.follow-m.new.q ≡ 12 = search (rules, c.loop-m.invariant.long) in
    let passed = passes _ (sym c.is_ok.ensures.value ∙ c.if-is_ok.true) in
    sought-found _ _ _ (sought c.loop-m.invariant _ _ long e.0 e.1) c.if-m-gt10.false _ c.check.ensures passed

pub dead_front-k-requires : goal.dead_front-k-requires
dead_front-k-requires c =
    let e = c.follow-m.ensures in
    let long : length c.follow-m.new.q ≡ 12 = search (rules, c.loop-m.invariant.long) in
    let failed = fails _ (sym c.is_ok.ensures.value ∙ c.if-is_ok.false) in
    refused-ready _ _ _ (sought c.loop-m.invariant _ _ long e.0 e.1) c.if-m-gt10.false _ c.check.ensures failed
