-- The call that writes a load (rule U5) as one value: the number and the lent bytes. Definitions only.
use Rattle.std.specs.Prelude.{ℕ, ◌*◌, List, length, ◌==◌}
use Rattle.plan.specs.Plan.{size}
use Rattle.plan.specs.Check.{fit_number}
use Rattle.plan.specs.Replaced.{Replaced, replaced_by}
use Rattle.workload.specs.Load.{load}

-- U5, H7: 1 to 6 of the plan, then 7 where the lent bytes are not three a step
unfoldable pub load_number : List ℕ → ℕ → List ℕ → ℕ
load_number p c out = fit_number p (length out == 3 * c)

-- U5: a refused call leaves the lent bytes; any other leaves the load
unfoldable pub load_of : List ℕ → ℕ → ℕ → List ℕ → Replaced
load_of p s c out = replaced_by (load_number p c out) out (load (size p) c s)
