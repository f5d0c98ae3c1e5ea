-- What the functions behind the call take and tell (rules O6, O7). Definitions only.
use Rattle.std.specs.Prelude.{◌≡◌, Bool, cond, not, List, ℕ, ◌<◌, eqb, length, set, Result, IfOk}
use Rattle.plan.specs.Plan.{size}
use Rattle.plan.specs.Check.{Accepted}
use Rattle.pass.specs.Pass.{PassResult, pass_result, pass}
use Rattle.reach.specs.Impact.{are_marks, change_number}
use Rattle.fault.specs.declared.Fault.{Fault}
use Rattle.fault.specs.Number.{number_of}

-- O6, H7, H8: t's answer can be changed: an accepted plan, one answer a node, and t is a node
pub record Changeable (p a : List ℕ) (t : ℕ) : Type 0 where
  pub accepted : Accepted p
  pub answers : length a ≡ size p
  pub node : t < size p

-- O6, O7: the change of a task's answer, once 1 to 9 are tested
unfoldable pub change_into : List ℕ → List ℕ → List ℕ → ℕ → ℕ → PassResult
change_into p a m t x = cond (not (eqb (change_number p a m t x) 0)) (pass_result (change_number p a m t x) m) (pass_result 0 (pass p (set a t x)).marks)

-- O6: what the pass over the answers tells of the marks m that were handed in
pub record ToldOf (p a m : List ℕ) (r : Result Bool Fault) : Type 0 where
  pub number : number_of r ≡ (pass p a).number
  pub same : IfOk r (λ s. s ≡ are_marks p a m)
