-- A target, the answers that lead to it, and what the call answers and leaves (rules Q). Definitions only.
use Rattle.std.specs.Prelude.{Bool, cond, ◌&&◌, ◌||◌, not, List, ℕ, eqb, ltb, length}
use Rattle.std.proofs.Math.Option.{Option, none, some}
use Rattle.plan.specs.Plan.{size}
use Rattle.plan.specs.Check.{fit_number}
use Rattle.pass.specs.Pass.{pass}
use Rattle.pass_nodes.specs.Nodes.{pass_mark}
use Rattle.lists.specs.Smallest.{smallest}

-- Q1: m may be wanted for a node, and e for the root
unfoldable pub can_want : ℕ → ℕ → Bool
can_want m e = (((eqb m 0 || eqb m 3) || eqb m 4) || eqb m 5) && (eqb e 3 || eqb e 4)

-- Q2: the answers a lead to the target: mark m at node v, end e
unfoldable pub leads : List ℕ → ℕ → ℕ → ℕ → List ℕ → Bool
leads p v m e a = (eqb (pass p a).number 0 && eqb (pass_mark p a v) m) && eqb (pass_mark p a 0) e

-- Q4: the way, if there is one
unfoldable pub way : List ℕ → ℕ → ℕ → ℕ → Option (List ℕ)
way p v m e = smallest (size p) (leads p v m e)

-- Q6: what a call answers, and the answers that it leaves
pub record WayResult : Type 0 where
  pub number : ℕ
  pub answers : List ℕ

-- Q6: the same, in one line
abbrev pub way_result : ℕ → List ℕ → WayResult
way_result n a = record { number = n; answers = a }

-- Q6, Q7, H25: the way and 0, or 30 and the answers a as they were
unfoldable pub found_into : Option (List ℕ) → List ℕ → WayResult
found_into none a = way_result 30 a
found_into (some l) a = way_result 0 l

-- Q6, H0: a call with the answers a: 1 to 6 of the plan, 7 of their length, 8 of the node, 29 of the marks; a refused call leaves a
unfoldable pub way_into : List ℕ → ℕ → ℕ → ℕ → List ℕ → WayResult
way_into p v m e a =
    cond (not (eqb (fit_number p (eqb (length a) (size p))) 0)) (way_result (fit_number p (eqb (length a) (size p))) a)
    (cond (not (ltb v (size p))) (way_result 8 a)
    (cond (not (can_want m e)) (way_result 29 a)
    (found_into (way p v m e) a)))
