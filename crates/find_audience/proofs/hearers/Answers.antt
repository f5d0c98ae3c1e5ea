-- By the code. Assumes nothing.
use Rattle.std.proofs.Common.{ap, [], ◌∷◌, inl, inr, ℕ, arith}
use Rattle.plan.specs.Plan.{kind_of}
use Rattle.event.specs.Event.{code_of}
use Rattle.audience.specs.Hearers.{hearers_by}
use Rattle.find_audience.specs.Whom.{whom_list}
use Rattle.find_audience.proofs.WhomLaws.{yes-first, no_second, answer-kind, rest-down}
use Rattle.find_audience.proofs.hearers.Goals as goal

pub on_start-requires : goal.on_start-requires
on_start-requires c = let s = c.before.before.before in (s.requires.0, s.requires.1)

pub on_end-requires : goal.on_end-requires
on_end-requires c = c.requires.0.few

pub on_end-requires-in-4 : goal.on_end-requires-in-4
on_end-requires-in-4 c = c.requires.0.few

pub next-requires : goal.next-requires
next-requires c = c.requires.0.few

pub next-requires-in-6 : goal.next-requires-in-6
next-requires-in-6 c = c.requires.0.few

pub next-requires-in-6-2 : goal.next-requires-in-6-2
next-requires-in-6-2 c = c.requires.0.few

pub returns-in-1 : goal.returns-in-1
unfolding hearers_by code_of
returns-in-1 c = rw c.in-1.is c.on_start.ensures

pub returns-in-2 : goal.returns-in-2
unfolding hearers_by code_of whom_list
returns-in-2 c = rw c.in-2.is (ap (λ (x : ℕ). x ∷ []) c.parent.ensures)

pub returns-in-3 : goal.returns-in-3
unfolding hearers_by code_of kind_of
returns-in-3 c = rw c.in-3.is c.on_end.ensures

pub returns-in-4 : goal.returns-in-4
unfolding hearers_by code_of kind_of
returns-in-4 c = rw c.in-4.is c.on_end-in-4.ensures

pub returns-in-5 : goal.returns-in-5
unfolding hearers_by code_of whom_list
returns-in-5 c = let s = c.before.before.before.before in
    rw c.in-5.is (yes-first _ s.requires.0 _ s.requires.1 (answer-kind _ s.args.code _ (inl c.in-5.is) s.requires.2) _ c.next.ensures)

pub returns-in-6 : goal.returns-in-6
unfolding hearers_by code_of whom_list
returns-in-6 c = let s = c.before.before.before.before.before in
    rw c.in-6.is (no_second _ s.requires.0 _ s.requires.1 (answer-kind _ s.args.code _ (inr c.in-6.is) s.requires.2) _ _ c.next-in-6.ensures c.next-in-6-2.ensures)

pub returns-in-7 : goal.returns-in-7
unfolding hearers_by code_of whom_list
returns-in-7 c = rw (c.in-7.is, c.parent-in-7.ensures)

pub returns-in_default : goal.returns-in_default
unfolding hearers_by whom_list
returns-in_default c =
    rw (rest-down c.args.code (omega arith) (omega arith) (omega arith) (omega arith) (omega arith) (omega arith) (omega arith))
    (ap (λ (x : ℕ). x ∷ []) c.parent-in_default.ensures)
