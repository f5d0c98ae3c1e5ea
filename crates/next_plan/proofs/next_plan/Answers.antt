-- The tests in turn; the search works in a local array, and what it finds is copied out. Assumes nothing.
use Rattle.std.proofs.Common.{◌≡◌, ◌++◌, ℕ, Option, Some, None, Ok, Err, length, drop, replicate, refl, ap, ◌∙◌}
use Rattle.std.specs.Option.{ok_or}
use Rattle.fault.specs.declared.Fault.{Fault}
use Rattle.fault.specs.Number.{fault_number}
use Rattle.fault.proofs.Laws.{fault-some, handed_on, handed_on-value}
use Rattle.small_plans.proofs.CallLaws.{by-plan}
use Rattle.next_plan.proofs.CallLaws.{too_large, small-plan, copied-ready, found_none, found-lent, found-done}
use Rattle.next_plan.proofs.next_plan.Goals as goal

pub returns-in_err-check : goal.returns-in_err-check
returns-in_err-check c =
    let e = c.from_residual.ensures.1 in
    rw (handed_on _ _ e, handed_on-value _ _ e) (by-plan _ _ _ c.in_err-check.ensures (fault-some _))

pub returns-then-n-gt10 : goal.returns-then-n-gt10
returns-then-n-gt10 c = too_large _ _ c.in_ok-check.ensures refl c.if-n-gt10.true _

pub search-requires : goal.search-requires
search-requires c =
    let s = small-plan _ _ c.in_ok-check.ensures refl c.if-n-gt10.false in
    let z = ap (λ t. t ++ drop (length c.args.plan.now) (replicate 12 0)) c.copy_from_slice.ensures.after in
    copied-ready _ _ s c.if-n-gt10.false z

-- what was searched for, by the answer that it was turned into
was_none : (o : Option ℕ) (f e : Fault) → Err e ≡ ok_or o f → (o ≡ None) × (e ≡ f)
was_none None f e h = (refl, cc)
was_none (Some m) f e h = (cc, cc)

was_some : (o : Option ℕ) (f : Fault) (m : ℕ) → Ok m ≡ ok_or o f → o ≡ Some m
was_some None f m h = cc
was_some (Some n) f m h = cc

pub returns-in_err-m : goal.returns-in_err-m
returns-in_err-m c =
    let e = c.from_residual-in_err-m.ensures.1 in
    let s = small-plan _ _ c.in_ok-check.ensures refl c.if-n-gt10.false in
    let z = ap (λ t. t ++ drop (length c.args.plan.now) (replicate 12 0)) c.copy_from_slice.ensures.after in
    let o = was_none _ _ _ c.in_err-m.ensures.value in
    rw (handed_on _ _ e ∙ ap fault_number o.1, handed_on-value _ _ e) (found_none _ _ s c.if-n-gt10.false z c.search.new.q (rw o.0 at c.search.ensures) _)

pub returns-then-out-ne10 : goal.returns-then-out-ne10
returns-then-out-ne10 c =
    let s = small-plan _ _ c.in_ok-check.ensures refl c.if-n-gt10.false in
    let z = ap (λ t. t ++ drop (length c.args.plan.now) (replicate 12 0)) c.copy_from_slice.ensures.after in
    found-lent _ _ s c.if-n-gt10.false z _ _ (rw (was_some _ _ _ c.in_ok-m.ensures.value) at c.search.ensures) _ c.if-out-ne10.true

pub returns : goal.returns
returns c =
    let s = small-plan _ _ c.in_ok-check.ensures refl c.if-n-gt10.false in
    let z = ap (λ t. t ++ drop (length c.args.plan.now) (replicate 12 0)) c.copy_from_slice.ensures.after in
    let long = c.search.auto.q ∙ (copied-ready _ _ s c.if-n-gt10.false z).0 in
    found-done _ _ s c.if-n-gt10.false z _ _ (rw (was_some _ _ _ c.in_ok-m.ensures.value) at c.search.ensures) _ long c.if-out-ne10.false _
    (ap (λ t. t ++ drop c.in_ok-m.m c.args.out.now) c.copy_from_slice-2.ensures.after)
