-- Laws of numbers: a fault has one, what a `?` hands on keeps it, and the first of two tests that fails. Assumes nothing.
use Rattle.std.proofs.Common.{◌≡◌, ℕ, cond, not, eqb, Result, Ok, Err, arith, ◌∙◌, ap, refl}
use Rattle.std.specs.Prelude.{IsErrAnd}
use Rattle.fault.specs.declared.Fault.{Fault}
use Rattle.fault.specs.declared.Fault.TheVariants.{BadLength, BadKind, BadParent, TaskParent, BadChildren, TooDeep, BadBuffer, NotInPlan, NotApplicable, BadAnswer, BadPick, BadText, NothingToUndo, BadDepth, NotRenumbered, UnknownPoint, NoFreePoint, BadTable, BadDesk, NotRepeatable, BadCount, TooManyNodes, LastPlan, NotSmall, BadMarks, BadTarget, NoWay}
use Rattle.fault.specs.Number.{fault_number, number_of, value_of}

-- no fault's number is 0
pub fault-some : (f : Fault) → fault_number f ≡ 0 → ⊥
fault-some BadLength e = omega (arith, e)
fault-some BadKind e = omega (arith, e)
fault-some BadParent e = omega (arith, e)
fault-some TaskParent e = omega (arith, e)
fault-some BadChildren e = omega (arith, e)
fault-some TooDeep e = omega (arith, e)
fault-some BadBuffer e = omega (arith, e)
fault-some NotInPlan e = omega (arith, e)
fault-some NotApplicable e = omega (arith, e)
fault-some BadAnswer e = omega (arith, e)
fault-some BadPick e = omega (arith, e)
fault-some BadText e = omega (arith, e)
fault-some NothingToUndo e = omega (arith, e)
fault-some BadDepth e = omega (arith, e)
fault-some NotRenumbered e = omega (arith, e)
fault-some UnknownPoint e = omega (arith, e)
fault-some NoFreePoint e = omega (arith, e)
fault-some BadTable e = omega (arith, e)
fault-some BadDesk e = omega (arith, e)
fault-some NotRepeatable e = omega (arith, e)
fault-some BadCount e = omega (arith, e)
fault-some TooManyNodes e = omega (arith, e)
fault-some LastPlan e = omega (arith, e)
fault-some NotSmall e = omega (arith, e)
fault-some BadMarks e = omega (arith, e)
fault-some BadTarget e = omega (arith, e)
fault-some NoWay e = omega (arith, e)

-- what a `?` hands on is the fault that it met
pub handed_on : {T : Type 0} (r : Result T Fault) (e : Fault) → IsErrAnd r (λ y. y ≡ e) → number_of r ≡ fault_number e
handed_on (Ok x) e h = absurd h
handed_on (Err f) e h = ap fault_number h

-- and no value is with it
pub handed_on-value : (r : Result ℕ Fault) (e : Fault) → IsErrAnd r (λ y. y ≡ e) → value_of r ≡ 0
handed_on-value (Ok x) e h = absurd h
handed_on-value (Err f) e h = refl

-- the first test failed, which has the number m
pub first-failed : (f : Fault) (m n : ℕ) → fault_number f ≡ m → fault_number f ≡ cond (not (eqb m 0)) m n
first-failed f m n e = let ne : m ≡ 0 → ⊥ = (λ z. fault-some f (e ∙ z)) in grind arith

-- it passed, so that the number is what the others say
pub first-passed : (k m n : ℕ) → 0 ≡ m → k ≡ n → k ≡ cond (not (eqb m 0)) m n
first-passed k m n z e = rw (← z, e)
