-- One law for each arm. Assumes nothing.
use mathlib.Core.Path.{◌∙◌}
use native.Mathlib.Omega.{arith}
use mathlib.Core.Logic.{inl, inr}
use Rattle.event.specs.Event.{start, commit, pick, down, code_number}
use Rattle.central.proofs.Tests.{and-on, and-off, last_code}
use Rattle.central.proofs.AllowedLaws.{allowed_at, allowed-offer, allowed-abort, allowed-answer}
use Rattle.central.proofs.allowed.Goals as goal
use Rattle.central.proofs.allowed.Goals.{in_default-via-then-code-lt1, in_default-via-else-code-lt1+else-code-lt7}

pub returns-in-1 : goal.returns-in-1
unfolding code_number
returns-in-1 c = c.may_start.ensures ∙ allowed_at _ _ _ _ _ c.requires.v_value start c.in-1.is

pub returns-then-marked : goal.returns-then-marked
returns-then-marked c = and-on c.marked.ensures c.if-marked.true c.finishes.ensures (allowed-offer _ _ _ _ _ c.requires.v_value c.in-2.is)

pub returns-else-marked : goal.returns-else-marked
returns-else-marked c = and-off _ c.marked.ensures c.if-marked.false (allowed-offer _ _ _ _ _ c.requires.v_value c.in-2.is)

pub returns-in-3 : goal.returns-in-3
unfolding code_number
returns-in-3 c = c.may_commit.ensures ∙ allowed_at _ _ _ _ _ c.requires.v_value commit c.in-3.is

pub returns-then-marked-2 : goal.returns-then-marked-2
returns-then-marked-2 c = and-on c.marked-in-4.ensures c.if-marked-2.true c.fails.ensures (allowed-abort _ _ _ _ _ c.requires.v_value c.in-4.is)

pub returns-else-marked-2 : goal.returns-else-marked-2
returns-else-marked-2 c = and-off _ c.marked-in-4.ensures c.if-marked-2.false (allowed-abort _ _ _ _ _ c.requires.v_value c.in-4.is)

pub returns-in-7 : goal.returns-in-7
unfolding code_number
returns-in-7 c = c.may_pick.ensures ∙ allowed_at _ _ _ _ _ c.requires.v_value pick c.in-7.is

pub returns-in-5-to-6 : goal.returns-in-5-to-6
returns-in-5-to-6 c = c.may_answer.ensures ∙ allowed-answer _ _ _ _ _ c.requires.v_value (omega arith) (omega arith)

pub returns-in_default : goal.returns-in_default
unfolding code_number
returns-in_default c =
    let pre = c.requires in
    rw c.may_turn_down.ensures (allowed_at _ _ _ _ _ pre.v_value down
    (last_code _ pre.le_code.0 pre.le_code.1 (λ e. omega arith) (elim c.in_default.branch [ in_default-via-then-code-lt1 w ↦ inl (omega arith) | in_default-via-else-code-lt1+else-code-lt7 w ↦ inr (omega arith) ])))
