-- When the call that renumbers passes, and what it then leaves. Assumes nothing.
use mathlib.Core.Path.{sym}
use lib.Dec.{eqb}
use lib.ListN.{length}
use borrow.Author.Tests.{eqb-true, eq-eqb}
use Rattle.plan.proofs.Main.{fit-exact}
use Rattle.plan.proofs.ReplacedLaws.{replaced-just}
use Rattle.trees.specs.Numbering.{renumbered}
use Rattle.trees.specs.Renumber.{renumber_number, renumber_of}
use Rattle.trees.specs.Claim.{RenumberRight, RenumberCall}

pub renumber-just : RenumberRight → RenumberCall
unfolding renumber_of renumber_number
renumber-just right p out q = (
  λ h. let r = (replaced-just _ out (renumbered p) q).0 h in
      let f = (fit-exact p (eqb (length out) (length p))).none.0 r.0 in
      let n = right p f.0 in
      rw (← r.1) (record { given = f.0; long = eqb-true (length out) (length p) f.1; accepted = n.accepted; same = n.same; ordered = n.ordered }),
  λ h. (replaced-just _ out (renumbered p) q).1 (
    (fit-exact p (eqb (length out) (length p))).none.1 (h.given, eq-eqb (length out) (length p) h.long),
    sym ((right p h.given).only q h.accepted h.same h.ordered),
  ),
)
