-- The call that renumbers a plan (rule R5) as one value: the number and the lent bytes. Definitions only.
use Rattle.std.specs.Prelude.{List, ℕ, eqb, length}
use Rattle.plan.specs.Check.{fit_number}
use Rattle.plan.specs.Replaced.{Replaced, replaced_by}
use Rattle.trees.specs.Numbering.{renumbered}

-- R5, H0, H7: 1 to 6 of the plan, then 7 where the lent bytes have not its length
unfoldable pub renumber_number : List ℕ → List ℕ → ℕ
renumber_number p out = fit_number p (eqb (length out) (length p))

-- R5: a refused call leaves the lent bytes; any other leaves the renumbered plan
unfoldable pub renumber_of : List ℕ → List ℕ → Replaced
renumber_of p out = replaced_by (renumber_number p out) out (renumbered p)
