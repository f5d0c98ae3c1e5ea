-- By the kind above v. Assumes nothing.
use Rattle.std.proofs.Common.{sym, ◌∙◌, rules}
use denote.Enum.Bare.{same_true, same_false}
use Rattle.plan.specs.contracts.kinds.Kind.{the_type}
use Rattle.find_audience.specs.Whom.{whom_list}
use Rattle.find_audience.proofs.WhomLaws.{end_none, end-turn, end-up}
use Rattle.find_audience.proofs.on_end.Goals as goal

pub returns-then-eq : goal.returns-then-eq
unfolding whom_list
returns-then-eq c = end_none _ _ _ (sym c.kind_above-above.ensures ∙ same_true the_type (search rules) _ _ (sym c.if-eq.ensures))

pub next-requires : goal.next-requires
next-requires c = c.requires

pub returns-then-eq-2 : goal.returns-then-eq-2
unfolding whom_list
returns-then-eq-2 c =
    end-turn _ _ _ (λ z. same_false the_type _ _ (sym c.if-eq.ensures) (c.kind_above-above.ensures ∙ z))
    (sym c.kind_above-above.ensures ∙ same_true the_type (search rules) _ _ (sym c.if-eq-2.ensures)) _ (c.next.ensures ∙ rw c.parent-u.ensures)

pub returns : goal.returns
unfolding whom_list
returns c = rw c.parent-u.ensures
    (end-up _ _ _ (λ z. same_false the_type _ _ (sym c.if-eq.ensures) (c.kind_above-above.ensures ∙ z))
    (λ z. same_false the_type _ _ (sym c.if-eq-2.ensures) (c.kind_above-above.ensures ∙ z)))
