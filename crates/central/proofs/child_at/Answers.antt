use mathlib.Core.Path.{sym, ◌∙◌}
use Rattle.central.proofs.ScanLaws.{at-start, at-end, at-no, at-stop, at_more}
use Rattle.central.proofs.child_at.Goals as goal
use Rattle.central.proofs.child_at.Goals.{then-parent-u+else-left-eq0, else-parent-u}

pub loop-c-init : goal.loop-c-init
loop-c-init c = at-start _ _ _ _ c.node_count-n.ensures

pub returns-then-left-eq0 : goal.returns-then-left-eq0
returns-then-left-eq0 c =
    let up = sym c.parent.ensures ∙ c.if-parent-u.true in
    sym (c.loop-c.invariant ∙ at-stop _ _ _ _ _ c.loop-c-test.true up c.if-left-eq0.true)

pub loop-c-preserved : goal.loop-c-preserved
loop-c-preserved c =
    let up = sym c.parent.ensures in
    let l = c.loop-c-test.true in
    c.loop-c.invariant ∙ elim c.if-parent-u.branch [ then-parent-u+else-left-eq0 w ↦ rw w.left-is (at_more _ _ _ _ _ l (up ∙ w.if-parent-u.true) w.if-left-eq0.false) | else-parent-u w ↦ rw w.left-is (at-no _ _ _ _ _ l (λ e. w.if-parent-u.false (sym up ∙ e))) ]

pub returns : goal.returns
returns c = sym (c.loop-c.invariant ∙ at-end _ _ _ _ _ c.loop-c-test.false)
