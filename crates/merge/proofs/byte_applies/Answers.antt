-- The node's place decides. Assumes nothing.
use Rattle.std.proofs.Common.{sym, ◌∙◌}
use Rattle.merge.proofs.FitLaws.{byte-placed, xor-told, conditional-told}
use Rattle.merge.proofs.byte_applies.Goals as goal

pub returns : goal.returns
returns c =
    c.byte_fits.ensures
    ∙ rw (xor-told _ c.eq-chosen.ensures, conditional-told _ c.eq-answers.ensures, c.kind_above.ensures, c.node_kind.ensures)
    (sym (byte-placed c.args.plan.now c.args.v c.args.b c.requires c.ranges.b.fits))
