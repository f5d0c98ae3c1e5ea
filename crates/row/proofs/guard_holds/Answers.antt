-- The one event, then nothing more, or the family. Assumes nothing.
use Rattle.std.proofs.Common.{◌≡◌, sym, ◌∙◌, true}
use Rattle.event.specs.Event.{code_of, event_of}
use Rattle.guard.specs.Guard.{guard}
use Rattle.guard.specs.Family.{named_nodes}
use Rattle.guard.proofs.ShapeLaws.{GivesGuard}
use Rattle.guard.proofs.NamedLaws.{guard-shape}
use Rattle.row.specs.Evaluate.{one_holds}
use Rattle.row.proofs.BytesHold.{one-fails, by-family}
use Rattle.row.proofs.EvaluateLaws.{family-free, family-named}
use Rattle.row.proofs.guard_holds.Goals as goal
use Rattle.row.proofs.guard_holds.Lts
use Rattle.row.proofs.guard_holds.Tie
use Rattle.row.proofs.guard_holds.Reads

-- the shape gives the guard
gives : (c : Lts.After-shape_of Tie.the-claims Reads.Pre Reads.Post) → let a = c.args in
    GivesGuard c.shape_of-s.result (named_nodes a.plan.now (code_of a.code) a.v) (guard a.plan.now (event_of a.code a.v))
gives c = rw c.shape_of-s.ensures (guard-shape _ _ _)

-- the one event is heard
heard : (c : Lts.Else1 Tie.the-claims Reads.Pre Reads.Post) → one_holds c.args.row.now c.shape_of-s.result ≡ true
heard c = sym c.one_holds.ensures ∙ c.if-not-one_holds.false

pub returns-then-not-one_holds : goal.returns-then-not-one_holds
returns-then-not-one_holds c = one-fails _ (gives c.before.before.before) (sym c.one_holds.ensures ∙ c.if-not-one_holds.true)

pub returns-then-s : goal.returns-then-s
returns-then-s c = let e = c.before.before.before.before in by-family _ (gives e.before.before) (heard e) (sym (family-free _ _ _ _ c.if-s.true))

pub returns : goal.returns
returns c = let t = c.before.before.before.before in
    let e = t.before.before.before in
    let s = e.before.before in
    by-family _ (gives s) (heard e) (c.family_holds.ensures ∙ rw (c.family_parent.ensures, c.left_out.ensures) (family-named _ _ _ _ s.shape_of-s.ensures t.if-s.false))
