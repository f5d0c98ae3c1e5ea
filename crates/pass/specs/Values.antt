-- The code's bytes as values of specs/Pass.antt, and what `settle` takes and leaves. Definitions only.
use Rattle.std.specs.Prelude.{◌≡◌, Bool, false, cond, ◌&&◌, not, List, ℕ, ◌+◌, ◌≤◌, ◌<◌, eqb, length, Result, Ok, Err, IfErr}
use Rattle.plan.specs.Plan.{is_kind, size}
use Rattle.plan.specs.declared.kinds.Kind.{Kind}
use Rattle.plan.specs.declared.kinds.Kind.TheVariants.{Task as task, Serial as serial, And as and, Or as or, Xor as xor, Contingency as contingency, Conditional as conditional, Waiting as waiting}
use Rattle.plan.specs.Check.{Accepted}
use Rattle.fault.specs.declared.Fault.{Fault}
use Rattle.fault.specs.Number.{fault_number}
use Rattle.pass.specs.declared.End.{End}
use Rattle.pass.specs.declared.End.TheVariants.{Works, Breaks}
use Rattle.pass.specs.declared.Mark.{Mark}
use Rattle.pass.specs.declared.Mark.TheVariants.{Committed, Failed, TurnedDown}
use Rattle.pass.specs.Pass.{Outcome, works, breaks, fault, Tally, settle}

-- F3: an end's byte
abbrev pub end_number : End → ℕ
end_number Works = 3
end_number Breaks = 4

-- F3, F5: the byte of an end, or the number of a fault
abbrev pub end_byte : Result End Fault → ℕ
end_byte (Ok e) = end_number e
end_byte (Err f) = fault_number f

-- F5: a fault is one of the pass's own, 13 or 14
abbrev pub OfPass : {T : Type 0} → Result T Fault → Type 0
OfPass r = IfErr r (λ f. 4 < fault_number f)

-- F4: a mark's byte
abbrev pub mark_byte : Mark → ℕ
mark_byte Committed = 3
mark_byte Failed = 4
mark_byte TurnedDown = 5

-- F3, F5: how a node ended, by its byte
unfoldable pub outcome_of : ℕ → Outcome
outcome_of o = cond (eqb o 3) works (cond (eqb o 4) breaks (fault o))

-- F1, F5: the end of a task, by its answer
unfoldable pub task_end : ℕ → ℕ
task_end a = cond (eqb a 1) 3 (cond (eqb a 2) 4 13)

-- F2: so many children, of which nothing is known
unfoldable pub tally_of : ℕ → Tally
tally_of n = record { places = n; worked = false; broke = false; chosen = false; wrong = 0 }

-- F3: what a block comes to by its tally: 3 it works, 4 it breaks, 5 children of an xor offer, but not the picked one
unfoldable pub so_far : Kind → Tally → ℕ
so_far task t = cond t.worked 3 4
so_far serial t = cond t.broke 4 3
so_far and t = cond t.broke 4 3
so_far or t = cond t.worked 3 4
so_far xor t = cond t.worked (cond t.chosen 3 5) 4
so_far contingency t = cond t.worked 3 4
so_far conditional t = cond t.worked 3 4
so_far waiting t = cond t.broke 4 3

-- F3: what a block that came to e, and to s at first, comes to after a child with mark m: a mark other than s turns it, but 5 not from 3
unfoldable pub comes_to : ℕ → ℕ → ℕ → ℕ
comes_to s e m = cond (eqb m 5) (cond (eqb e 4) 5 e) (cond (eqb m s) e m)

-- F1, F2: a conditional is answered by no
unfoldable pub says_no : Kind → ℕ → Bool
says_no k a = is_kind conditional k && eqb a 2

-- F2: a block with answer a reaches no child behind one that ended as o
unfoldable pub done_by : Kind → ℕ → ℕ → Bool
done_by k a o = cond (is_kind serial k) (eqb o 4) (cond (is_kind contingency k) (eqb o 3) (is_kind conditional k && eqb a 1))

-- F3, F5: the end of a block that came to e
unfoldable pub ends_as : Kind → ℕ → ℕ → ℕ
ends_as k a e = cond (is_kind xor k && not (eqb e 3)) (cond (eqb e 4 && eqb a 0) 4 14) e

-- H0, H7: node v can be settled: an accepted plan, one answer and one mark a node
pub record Ready (p a m : List ℕ) (v : ℕ) : Type 0 where
  pub accepted : Accepted p
  pub answers : length a ≡ size p
  pub marks : length m ≡ size p
  pub node : v < size p

-- F2 to F5: settling v, where the marks were m, ends as o and leaves the marks n, whatever fuel is enough
pub record Settles (p a m : List ℕ) (v : ℕ) (n : List ℕ) (o : ℕ) : Type 0 where
  pub by : (fuel : ℕ) → size p ≤ v + fuel → settle p a fuel v m ≡ record { outcome = outcome_of o; marks = n }
  pub least : 3 ≤ o

-- F2 to F5: the same, by what the code answers
pub record Ended (p a m : List ℕ) (v : ℕ) (n : List ℕ) (r : Result End Fault) : Type 0 where
  pub settles : Settles p a m v n (end_byte r)
  pub own : OfPass r
