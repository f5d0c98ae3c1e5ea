-- The record of the single pass (rules F, G3 and G6) as one value: the number and every lent byte afterwards. Definitions only.
use Rattle.std.specs.Prelude.{cond, ◌&&◌, not, List, ℕ, eqb, length}
use Rattle.plan.specs.Plan.{size}
use Rattle.plan.specs.Check.{fit_number}
use Rattle.pass.specs.Pass.{pass}
use Rattle.retention.specs.Record.{table_number, record_of, Recorded, recorded, recorded_as}

-- H1 to H7: the plan's number, then 7 where answers, marks or classes are not one byte a node
unfoldable pub lent_number : List ℕ → List ℕ → List ℕ → List ℕ → ℕ
lent_number p a m c = fit_number p (eqb (length a) (size p) && eqb (length m) (size p) && eqb (length c) (size p))

-- H0, H21: the table's number comes before the plan's, and the pass's own fault (H13) last
unfoldable pub pass_record_number : List ℕ → List ℕ → List ℕ → List ℕ → List ℕ → ℕ
pass_record_number p tab a m c =
    cond (not (eqb (table_number tab) 0)) (table_number tab)
    (cond (not (eqb (lent_number p a m c) 0)) (lent_number p a m c)
    (pass p a).number)

-- G3, G6: the pass's marks, classed by the table; a refused call leaves marks and classes
unfoldable pub pass_record_into : List ℕ → List ℕ → List ℕ → List ℕ → List ℕ → Recorded
pass_record_into p tab a m c =
    cond (not (eqb (pass_record_number p tab a m c) 0)) (recorded (pass_record_number p tab a m c) m c)
    (recorded_as (record_of p tab (pass p a).marks))
