-- Each return is the first test that failed. Assumes nothing.
use mathlib.Core.Path.{◌≡◌, sym, ◌∙◌}
use mathlib.Core.Bool.{true}
use native.Mathlib.Omega.{arith}
use Rattle.event.specs.Event.{known}
use Rattle.event.proofs.ValidLaws.{known-told, fault-unsited, fault-unknown, fault-inapplicable, fault-none}
use Rattle.event.proofs.check.Goals as goal
use Rattle.event.proofs.check.Lts
use Rattle.event.proofs.check.Tie
use Rattle.event.proofs.check.Reads

knows : (c : Lts.Else2 Tie.the-claims Reads.Pre Reads.Post Tie.handed_clauses) → let s = c.before.before.before.before in known s.args.plan.now s.args.code s.args.node ≡ true
knows c = sym c.known.ensures ∙ c.if-not-known.false

pub returns-then-not-sited : goal.returns-then-not-sited
returns-then-not-sited c = sym (fault-unsited _ _ _ _ c.if-not-sited.true)

pub returns-then-not-known : goal.returns-then-not-known
returns-then-not-known c = sym (fault-unknown _ _ _ _ (sym c.known.ensures ∙ c.if-not-known.true))

pub overflow_cast-code : goal.overflow_cast-code
overflow_cast-code c = let k = known-told _ _ _ (knows c.before) in omega arith

pub overflow_cast-node : goal.overflow_cast-node
overflow_cast-node c = let k = known-told _ _ _ (knows c.before) in omega (arith, c.requires)

pub applies-requires : goal.applies-requires
applies-requires c = let k = known-told _ _ _ (knows c.before) in
    record { le_code = (k.low, k.high); v_bound = k.node_in }

pub returns-then-not-applies : goal.returns-then-not-applies
returns-then-not-applies c = sym (fault-inapplicable _ _ _ _ c.if-not-sited.false (knows c.before.before.before) (sym c.applies.ensures ∙ c.if-not-applies.true))

pub returns : goal.returns
returns c = sym (fault-none _ _ _ _ c.if-not-sited.false (knows c.before.before.before) (sym c.applies.ensures ∙ c.if-not-applies.false))
