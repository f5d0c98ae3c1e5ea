-- The function's answers: refused, forbidden, allowed. Assumes nothing.
use mathlib.Core.Path.{◌≡◌}
use mathlib.Core.Bool.{Bool, true, false}
use mathlib.Core.List.{List}
use Prim.Native.Nat.{ℕ}
use lib.Dec.{eqb}
use lib.ListN.{length}
use borrow.Author.Tests.{ne_eqb, eqb-true}
use Rattle.lists.proofs.Logic.{and_left, and_right}
use Rattle.plan.specs.Plan.{size}
use Rattle.event.specs.Event.{code_of, event_of}
use Rattle.event.specs.Valid.{invalid, Valid}
use Rattle.event.proofs.ValidLaws.{valid}
use Rattle.central.specs.Central.{allowed}
use Rattle.central.specs.Rule.{state_of, marks_after, notes_after, right_size, ruled, rule_invalid, rule_on, rule_of}
use Rattle.central.specs.Ruling.{Allowed, Forbidden, Refused, ruling_of}
use Rattle.central.specs.declared.Ruling.{Ruling as Told}
use Rattle.fault.specs.declared.Fault.{Fault}
use Rattle.fault.specs.Number.{fault_number}
use Rattle.std.specs.Prelude.{Result, Ok, Err, IsErrAnd}
use Rattle.std.proofs.Common.{ap, sym}

-- what a `?` hands on is a refusal
pub refused-is : (r : Result Told Fault) (e : Fault) → IsErrAnd r (λ y. y ≡ e) → ruling_of r ≡ Refused (fault_number e)
refused-is (Ok x) e h = absurd h
refused-is (Err f) e h = ap (λ y. Refused (fault_number y)) h

module _ (p marks notes : List ℕ) where
  pub sized : right_size p marks notes ≡ true → (length marks ≡ size p) × (length notes ≡ size p)
  unfolding right_size
  sized h = (eqb-true (length marks) (size p) (and_left _ _ h), eqb-true (length notes) (size p) (and_right (eqb (length marks) (size p)) _ h))

  -- s is what the code said of the sizes, and the tests 1 to 9 passed
  pub told-valid : {code node : ℕ} {s : Bool} → s ≡ right_size p marks notes → 0 ≡ invalid p s true code node → Valid p (right_size p marks notes) true code node
  told-valid {code} {node} e z = valid p (right_size p marks notes) true code node (rw e at (sym z))

  -- why is what the tests 1 to 9 answer
  module _ (code node why : ℕ) (told : why ≡ invalid p (right_size p marks notes) true code node) where
    pub rule-refused : (why ≡ 0 → ⊥) → rule_of p code node marks notes ≡ ruled marks notes (Refused why)
    unfolding rule_of rule_invalid
    rule-refused h = rw (← told, ne_eqb why 0 h)

    module _ (passed : why ≡ 0) where
      pub rule-forbidden : allowed p (state_of marks notes) (event_of code node) ≡ false → rule_of p code node marks notes ≡ ruled marks notes Forbidden
      unfolding rule_of rule_invalid rule_on
      rule-forbidden h = rw (← told, passed, h)

      pub rule-allowed : allowed p (state_of marks notes) (event_of code node) ≡ true →
          rule_of p code node marks notes ≡ ruled (marks_after (code_of code) node marks) (notes_after (code_of code) node notes) Allowed
      unfolding rule_of rule_invalid rule_on
      rule-allowed h = rw (← told, passed, h)
