-- Each return is one branch of the decision. Assumes nothing.
use Rattle.std.proofs.Common.{◌≡◌, sym, ◌∙◌, false, arith}
use Rattle.event.specs.Event.{event_of}
use Rattle.guard.specs.Guard.{barred}
use Rattle.guard.proofs.RuleLaws.{rule-small}
use Rattle.row.specs.Row.{heard}
use Rattle.site.proofs.StepLaws.{decide-barred, decide-unmet, decide-passed}
use Rattle.site.proofs.decide.Goals as goal
use Rattle.site.proofs.decide.Lts
use Rattle.site.proofs.decide.Tie
use Rattle.site.proofs.decide.Reads

free : (c : Lts.Else1 Tie.the-claims Reads.Pre Reads.Post) → let s = c in barred s.args.plan.now (heard s.args.row.now) (event_of s.args.code s.args.node) ≡ false
free c = sym c.is_barred.ensures ∙ c.if-is_barred.false

pub returns-then-is_barred : goal.returns-then-is_barred
returns-then-is_barred c = decide-barred _ _ _ _ _ (sym c.is_barred.ensures ∙ c.if-is_barred.true)

pub returns-then-not-guard_holds : goal.returns-then-not-guard_holds
returns-then-not-guard_holds c = decide-unmet _ _ _ _ _ (free c.before.before.before) (sym c.guard_holds.ensures ∙ c.if-not-guard_holds.true)

pub overflow_cast-rule : goal.overflow_cast-rule
overflow_cast-rule c = let s = c in
    omega (arith, c.rule_number-rule.ensures, rule-small s.requires.0 s.requires.1 s.args.code)

pub returns : goal.returns
returns c = let m = c.before.before.before.before.before.before in
    decide-passed _ _ _ _ _ (free m.before.before) (sym m.guard_holds.ensures ∙ m.if-not-guard_holds.false)
    ∙ rw (c.set_heard.ensures, c.rule_number-rule.ensures)
