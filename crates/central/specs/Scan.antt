-- What the functions read of bytes (rule E10): sets of marks, answers and picks. Definitions only.
use Rattle.std.specs.Prelude.{Bool, not, List, ℕ, ◌/◌, ◌%◌, ◌^◌, eqb, get_or}
use Rattle.lists.specs.Seq.{keep}
use Rattle.event.specs.Bit.{has_bit}
use Rattle.central.specs.Mark.{Mark, mark_number, mark_of}
use Rattle.central.specs.Central.{Answer, none, said-yes, said-no}
use Rattle.central.specs.declared.Answer.{Answer as Told}
use Rattle.central.specs.declared.Answer.TheVariants.{Nothing, Yes, No}

-- B6: m is in a set of marks, given as a byte: bit m for mark m
unfoldable pub in_set : ℕ → Mark → Bool
in_set set m = eqb (set / 2 ^ mark_number m % 2) 1

-- E10: v's mark is in the set
unfoldable pub mark_in : ℕ → List ℕ → ℕ → Bool
mark_in set marks v = in_set set (mark_of (get_or marks v 0))

-- E3, E10: an answer, as the functions hand it on
abbrev pub told_answer : Told → Answer
told_answer Nothing = none
told_answer Yes = said-yes
told_answer No = said-no

-- E10: v is noted as picked
unfoldable pub picked_at : List ℕ → ℕ → Bool
picked_at notes v = has_bit (get_or notes v 0) 7

-- C6, E7: those of cs but v
unfoldable pub besides : ℕ → List ℕ → List ℕ
besides v cs = keep (λ c. not (eqb c v)) cs
