-- The second form of the check (rule H19): it also leaves every node's depth in lent bytes. Definitions only.
use Rattle.std.specs.Prelude.{◌≡◌, cond, not, ◌&&◌, List, ◌++◌, ℕ, eqb, length, drop, replicate}
use Rattle.lists.specs.Seq.{table}
use Rattle.plan.specs.Plan.{size, depth}
use Rattle.plan.specs.Check.{check_number, fit_number}

-- H19: a number, 0 where the plan is accepted, and the lent bytes
pub record Checked : Type 0 where
  pub depths : List ℕ
  pub number : ℕ

abbrev pub checked : List ℕ → ℕ → Checked
checked d n = record { depths = d; number = n }

-- A6: every node's depth, in the front of 160 zeros
unfoldable pub depths_front : List ℕ → List ℕ
depths_front p = table (depth p) (size p) ++ drop (size p) (replicate 160 0)

-- H7: the lent bytes are one a node
unfoldable pub depths_number : List ℕ → List ℕ → ℕ
depths_number p d = fit_number p (eqb (length d) (size p))

-- H19: a call with the bytes d lent: 1 to 6 of the plan, then 7 of the length (H7). A refused call leaves the bytes; any other leaves every
-- node's depth (A6)
unfoldable pub depths_of : List ℕ → List ℕ → Checked
depths_of p d =
    cond (not (eqb (depths_number p d) 0)) (checked d (depths_number p d))
    (checked (table (depth p) (size p)) 0)

-- CLAIM (H19). Every plan gets the number that `check` gives it; only where that is 0, and the lent bytes are not one a node, it is 7.
abbrev pub SameNumber : Type 0
SameNumber = (p d : List ℕ) →
    ((depths_of p d).number ≡ cond (eqb (check_number p) 0 && not (eqb (length d) (size p))) 7 (check_number p))
    × (length d ≡ size p → (depths_of p d).number ≡ check_number p)
