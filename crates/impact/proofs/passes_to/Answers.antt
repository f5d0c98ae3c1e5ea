-- The pass leaves its marks in a local array's front, which is compared with the marks handed in. Assumes nothing.
use Rattle.std.proofs.Common.{replicate, sym, ◌∙◌}
use Rattle.pass.proofs.PassLaws.{blank-length, blank-ready}
use Rattle.pass.proofs.TableLaws.{handed}
use Rattle.impact.proofs.ChangeLaws.{told_is, told-fault}
use Rattle.impact.proofs.passes_to.Goals as goal

pub returns-in_err-settle_all : goal.returns-in_err-settle_all
returns-in_err-settle_all c =
    let r = c.requires.0 in
    rw (handed _ _ c.from_residual.ensures.1)
    (told-fault _ _ _ _ _ _ (blank-ready r.accepted _ c.node_count-n.ensures r.answers) c.in_err-settle_all.ensures)

pub returns : goal.returns
returns c =
    let r = c.requires.0 in
    let e = c.node_count-n.ensures in
    told_is _ _ _ _ (replicate 160 0) _ _ _ (blank-ready r.accepted _ e r.answers) e
    (record { long = c.settle_all.auto.marks ∙ sym (blank-length r.accepted _ e) }) c.in_ok-settle_all.ensures c.requires.1 c.eq.ensures
