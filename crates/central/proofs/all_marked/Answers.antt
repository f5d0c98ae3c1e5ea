-- Child by child. Assumes nothing.
use Rattle.std.proofs.Common.{sym, ◌∙◌}
use Rattle.central.proofs.ScanLaws.{all_start, all_end, all-no, all-stop, all_more}
use Rattle.central.proofs.all_marked.Goals as goal
use Rattle.central.proofs.all_marked.Goals.{else-parent-u-via-then-parent-u+else-not-marked, else-parent-u-via-else-parent-u}

pub loop-c-init : goal.loop-c-init
loop-c-init c = all_start _ _ _ _

pub returns-then-not-marked : goal.returns-then-not-marked
returns-then-not-marked c =
    let up = sym c.parent.ensures ∙ c.if-parent-u.true in
    let mark = sym c.marked.ensures ∙ c.if-not-marked.true in
    sym (c.loop-c.invariant ∙ all-stop _ _ _ _ _ c.loop-c-test.true up mark)

pub loop-c-preserved : goal.loop-c-preserved
loop-c-preserved c =
    let up = sym c.parent.ensures in
    let l = c.loop-c-test.true in
    c.loop-c.invariant ∙ elim c.else-parent-u.branch [ else-parent-u-via-then-parent-u+else-not-marked w ↦ all_more _ _ _ _ _ l (up ∙ w.if-parent-u.true) (sym w.marked.ensures ∙ w.if-not-marked.false) | else-parent-u-via-else-parent-u w ↦ all-no _ _ _ _ _ l (λ e. w.if-parent-u.false (sym up ∙ e)) ]

pub returns : goal.returns
returns c = sym (c.loop-c.invariant ∙ all_end _ _ _ _ _ c.loop-c-test.false)
