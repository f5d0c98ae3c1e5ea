-- The first child, if any, has no sibling behind it. Assumes nothing.
use Rattle.std.proofs.Common.{◌∙◌, ap, not, eqb, eq-eqb, ne_eqb}
use Rattle.repeat.proofs.ChildLaws.{first-within, one_told}
use Rattle.repeat.proofs.one_child.Goals as goal

pub next_sibling-requires : goal.next_sibling-requires
next_sibling-requires c = let r = c.requires in first-within r.1 _ r.2 _ c.first_child-c.ensures r.0

pub returns-then-c-ne0 : goal.returns-then-c-ne0
returns-then-c-ne0 c =
    let r = c.requires in
    ap (λ d. eqb d 0) c.next_sibling.ensures ∙ rw (ne_eqb _ 0 c.if-c-ne0.true) at (one_told r.1 _ r.2 _ c.first_child-c.ensures)

pub returns-else-c-ne0 : goal.returns-else-c-ne0
returns-else-c-ne0 c =
    let r = c.requires in
    ap not (eq-eqb _ 0 c.if-c-ne0.false) ∙ rw (eq-eqb _ 0 c.if-c-ne0.false) at (one_told r.1 _ r.2 _ c.first_child-c.ensures)
