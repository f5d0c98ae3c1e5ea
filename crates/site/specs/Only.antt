-- An only child is never turned down (rules C1, C6 and H16): there is no sibling that could be picked. Definitions only.
use Rattle.std.specs.Prelude.{◌≡◌, Bool, false, List, [], ◌∷◌, ℕ}
use Rattle.plan.specs.Plan.{parent, children}
use Rattle.event.specs.Event.{Event, down, at}
use Rattle.guard.specs.Guard.{guard, holds}
use Rattle.guard.specs.Bytes.{encode}
use Rattle.site.specs.Step.{Stepped, stepped, step_of}
use Rattle.site.specs.Verdict.{Refusal}
use Rattle.site.specs.Verdict.{Refused}

-- H0: a step that was refused and left the row
pub record Declined (row : List ℕ) (s : Stepped) : Type 0 where
  pub why : Refusal
  pub is : s ≡ stepped row (Refused why)

-- C1, C6: its guard has a clause without events, written 020102nn00; it holds for nobody, and no row lets the event pass
pub record NeverDown (p : List ℕ) (v : ℕ) : Type 0 where
  pub written : encode (guard p (at down v)) ≡ 2 ∷ 1 ∷ 2 ∷ v ∷ 0 ∷ []
  pub unmet : (heard : Event → Bool) → holds heard (guard p (at down v)) ≡ false
  pub declined : (row : List ℕ) → Declined row (step_of p 8 v row)

-- CLAIM (C6). So it is for the only child of every block of every plan.
abbrev pub OnlyChild : Type 0
OnlyChild = (p : List ℕ) (v : ℕ) → children p (parent p v) ≡ v ∷ [] → NeverDown p v
