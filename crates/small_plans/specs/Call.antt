-- The call that gives the next plan (rules T6, T7) as one value. Definitions only.
use Rattle.std.specs.Prelude.{cond, not, List, ℕ, eqb, leb, length}
use Rattle.std.proofs.Math.Option.{Option, none, some}
use Rattle.plan.specs.Plan.{size}
use Rattle.plan.specs.Check.{check_number}
use Rattle.plan.specs.Made.{Made, made, in_front}
use Rattle.small_plans.specs.Order.{next_plan}

-- T6, T7: of a small plan, by its next one: 26 where there is none, 7 where the lent bytes are not 10, else the next plan in front of them
unfoldable pub given : Option (List ℕ) → List ℕ → Made
given none out = made 26 0 out
given (some q) out = cond (not (eqb (length out) 10)) (made 7 0 out) (made 0 (size q) (in_front q out))

-- T6, H0, H28: 1 to 6 of the plan, 27 of its nodes; a plan that has none of them is small
unfoldable pub next_of : List ℕ → List ℕ → Made
next_of p out =
    cond (not (eqb (check_number p) 0)) (made (check_number p) 0 out)
    (cond (not (leb (size p) 5)) (made 27 0 out)
    (given (next_plan p) out))
