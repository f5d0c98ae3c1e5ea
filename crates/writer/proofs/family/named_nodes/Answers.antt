-- The family, or nobody. Assumes nothing.
use Rattle.std.proofs.Common.{◌≡◌, sym, ◌∙◌, arith}
use Rattle.plan.specs.Plan.{kind, above}
use Rattle.event.specs.Event.{code_of}
use Rattle.guard.specs.Family.{names_family}
use Rattle.guard.proofs.PutLaws.{put_as, put-none}
use Rattle.guard.proofs.FamilyLaws.{family-few}
use Rattle.guard.proofs.NamedLaws.{names-bytes, named-family, named_none}
use Rattle.writer.proofs.family.named_nodes.Goals as goal
use Rattle.writer.proofs.family.named_nodes.Lts
use Rattle.writer.proofs.family.named_nodes.Tie
use Rattle.writer.proofs.family.named_nodes.Reads

named : (c : Lts.After-names_family Tie.the-claims Reads.Pre Reads.Post Tie.handed_clauses) → let a = c.args in c.names_family.result ≡ names_family (code_of a.code) (kind a.plan.now a.v) (above a.plan.now a.v)
named c = sym (names-bytes _ _ _ c.kind.ensures c.above.ensures (sym c.names_family.ensures))

pub returns-then-not-names_family : goal.returns-then-not-names_family
returns-then-not-names_family c = put_as (named_none _ _ _ (sym (named c.before.before) ∙ c.if-not-names_family.true)) (put-none _ 0)

pub gather-requires : goal.gather-requires
gather-requires c = let s = c.before.before.before.before.before.before.before.before.before.before in
    record { plan_bound = s.requires.0.few; skip_in_bounds = omega (arith, family-few _ s.requires.0 c.family_parent.result c.left_out.result, s.requires.1) }

pub returns : goal.returns
returns c = let o = c.before.before.before.before.before in
    put_as (named-family _ _ _ (sym (named o.before.before.before) ∙ o.if-not-names_family.false)
    ∙ rw (← o.family_parent.ensures, ← o.left_out.ensures)) c.gather.ensures
