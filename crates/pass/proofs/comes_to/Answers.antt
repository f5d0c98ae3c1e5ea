-- By the child's mark and the state before. Assumes nothing.
use Rattle.std.proofs.Common.{sym, ◌∙◌}
use Rattle.pass.specs.Values.{comes_to}
use Rattle.pass.proofs.TableLaws.{comes-down, comes-same, comes-other}
use Rattle.pass.proofs.comes_to.Goals as goal

pub returns-in-Failed : goal.returns-in-Failed
unfolding comes_to
returns-in-Failed c = rw (c.in-TurnedDown.is, c.in-Failed.is)

pub returns-in_default-state : goal.returns-in_default-state
returns-in_default-state c = rw c.in-TurnedDown.is (comes-down _ _ c.in_default-state.not-Failed)

pub returns-then-eq : goal.returns-then-eq
returns-then-eq c = comes-same _ _ _ c.in_default.not-TurnedDown (sym c.eq.ensures ∙ c.if-eq.true)

pub returns-else-eq : goal.returns-else-eq
returns-else-eq c = comes-other _ _ _ c.in_default.not-TurnedDown (sym c.eq.ensures ∙ c.if-eq.false)
