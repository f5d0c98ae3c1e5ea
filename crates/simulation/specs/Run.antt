-- The functions of this crate as values: one step, the record, and a list of steps in frames (rules G3, H7, I and J1), for the layout in which
-- every node has its own row. Each is the answer and every lent byte afterwards. Definitions only.
use Rattle.std.specs.Prelude.{cond, ◌&&◌, not, List, [], ◌∷◌, ℕ, zero, suc, ◌+◌, ◌/◌, ◌%◌, eqb, length, get_or}
use Rattle.plan.specs.Plan.{size}
use Rattle.plan.specs.Check.{fit_number}
use Rattle.event.specs.Site.{Layout, own}
use Rattle.retention.specs.Record.{common_table, table_number, record_of, Recorded, recorded, recorded_as}
use Rattle.job.specs.Simulation.{Step, step_from, Simulated, simulate, state_fits, replay_from, numbers_from, end_marks}

-- I2, J1: one step, from three numbers
unfoldable pub simulate_of : List ℕ → ℕ → ℕ → ℕ → List ℕ → Simulated
simulate_of p code node site st = simulate p (own p) st (step_from code node site)

-- H7: the state is not rows times nodes, or the marks or classes are not one byte a node
unfoldable pub record_number : List ℕ → Layout → List ℕ → List ℕ → List ℕ → ℕ
record_number p lay st m c = fit_number p (state_fits p lay st && eqb (length m) (size p) && eqb (length c) (size p))

-- H0, H21: the table's number comes before the plan's
unfoldable pub record_by_number : List ℕ → Layout → List ℕ → List ℕ → List ℕ → List ℕ → ℕ
record_by_number p lay tab st m c = cond (not (eqb (table_number tab) 0)) (table_number tab) (record_number p lay st m c)

-- G3, G4: the record by the house's own table, for any layout of rows
unfoldable pub record_by_on : List ℕ → Layout → List ℕ → List ℕ → List ℕ → List ℕ → Recorded
record_by_on p lay tab st m c =
    cond (not (eqb (record_by_number p lay tab st m c) 0)) (recorded (record_by_number p lay tab st m c) m c)
    (recorded_as (record_of p tab (end_marks p lay st)))

-- B4: where every node has its own row
abbrev pub record_by_into : List ℕ → List ℕ → List ℕ → List ℕ → List ℕ → Recorded
record_by_into p tab st m c = record_by_on p (own p) tab st m c

-- G1: without a table, by the common one
abbrev pub record_into : List ℕ → List ℕ → List ℕ → List ℕ → Recorded
record_into p st m c = record_by_into p common_table st m c

-- I12, J1: the steps of n frames of three bytes, from byte i on
unfoldable pub steps_from : ℕ → List ℕ → ℕ → List Step
steps_from zero bs i = []
steps_from (suc n) bs i = step_from (get_or bs i 0) (get_or bs (i + 1) 0) (get_or bs (i + 2) 0) ∷ steps_from n bs (i + 3)

unfoldable pub steps_of : List ℕ → List Step
steps_of bs = steps_from (length bs / 3) bs 0

-- I12: a list of steps: the number of the call, the state and the steps' numbers
pub record Ran : Type 0 where
  pub number : ℕ
  pub state : List ℕ
  pub numbers : List ℕ

abbrev pub ran : ℕ → List ℕ → List ℕ → Ran
ran n st ns = record { number = n; state = st; numbers = ns }

-- H7: the state is not nodes times nodes, the frames are not whole, or there is not one byte a frame for the numbers
unfoldable pub run_number : List ℕ → List ℕ → List ℕ → List ℕ → ℕ
run_number p bs st ns = fit_number p (state_fits p (own p) st && eqb (length bs % 3) 0 && eqb (length ns) (length bs / 3))

-- I12: the frames are run from the lent state
unfoldable pub run_of : List ℕ → List ℕ → List ℕ → List ℕ → Ran
run_of p bs st ns =
    cond (not (eqb (run_number p bs st ns) 0)) (ran (run_number p bs st ns) st ns)
    (ran 0 (replay_from p (own p) st (steps_of bs)) (numbers_from p (own p) st (steps_of bs)))
