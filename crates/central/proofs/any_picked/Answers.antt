-- Child by child. Assumes nothing.
use Rattle.std.proofs.Common.{sym, ◌∙◌}
use Rattle.central.proofs.ScanLaws.{any-start, any-end, any-no, any-skip, any-stop, any-more}
use Rattle.central.proofs.any_picked.Goals as goal
use Rattle.central.proofs.any_picked.Goals.{else-parent-u-via-then-parent-u+else-c-skip, else-parent-u-via-then-parent-u+then-c-skip+else-picked, else-parent-u-via-else-parent-u}

pub loop-c-init : goal.loop-c-init
loop-c-init c = any-start _ _ _ _ _ c.node_count-n.ensures

pub returns-then-picked : goal.returns-then-picked
returns-then-picked c =
    let up = sym c.parent.ensures ∙ c.if-parent-u.true in
    let note = sym c.picked.ensures ∙ c.if-picked.true in
    sym (c.loop-c.invariant ∙ any-stop _ _ _ _ _ _ c.loop-c-test.true up c.if-c-skip.true note)

pub loop-c-preserved : goal.loop-c-preserved
loop-c-preserved c =
    let up = sym c.parent.ensures in
    let l = c.loop-c-test.true in
    c.loop-c.invariant ∙ elim c.else-parent-u.branch [ else-parent-u-via-then-parent-u+then-c-skip+else-picked w ↦ any-more _ _ _ _ _ _ l (up ∙ w.if-parent-u.true) w.if-c-skip.true (sym w.picked.ensures ∙ w.if-picked.false) | else-parent-u-via-then-parent-u+else-c-skip w ↦ any-skip _ _ _ _ _ _ l (up ∙ w.if-parent-u.true) w.if-c-skip.false | else-parent-u-via-else-parent-u w ↦ any-no _ _ _ _ _ _ l (λ e. w.if-parent-u.false (sym up ∙ e)) ]

pub returns : goal.returns
returns c = sym (c.loop-c.invariant ∙ any-end _ _ _ _ _ _ c.loop-c-test.false)
