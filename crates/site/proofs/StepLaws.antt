-- A step and a message by cases: which answer they give, and what they leave (rules H10, H11, H16 and H17). Assumes nothing.
use Rattle.std.proofs.Common.{◌≡◌, ◌∙◌, refl, Bool, true, false, cond, not, ◌&&◌, List, ℕ, eqb-true, eq-eqb, ne_eqb, eqb, length}
use borrow.Author.Tests.{eqb-false}
use Rattle.lists.proofs.Logic.{cases, decided}
use Rattle.plan.specs.Plan.{size}
use Rattle.event.specs.Event.{event_of}
use Rattle.event.specs.Valid.{invalid, Valid}
use Rattle.event.proofs.ValidLaws.{valid}
use Rattle.guard.specs.Guard.{guard, holds, barred}
use Rattle.guard.specs.Rule.{rule_byte}
use Rattle.row.specs.Row.{heard, hear}
use Rattle.site.specs.Verdict.{Invalid, Barred, Unmet}
use Rattle.site.specs.Verdict.{Passed, Heard, Refused}
use Rattle.site.specs.Verdict.{report_of, verdict_number}
use Rattle.site.specs.Step.{Stepped, stepped, step_invalid, decide, step_at, hear_of}

-- one of three by two tests
three : {A : Type 0} (P : Bool → Bool → A → Type 0) {x y z : A} → ((g : Bool) → P true g x) → P false false y → P false true z →
    (b g : Bool) → P b g (cond b x (cond (not g) y z))
three P x y z true g = x g
three P x y z false false = y
three P x y z false true = z

-- what the tests answered, of a row of n bytes
pub tested : (p : List ℕ) (code node : ℕ) (row : List ℕ) {m n : ℕ} → m ≡ invalid p (eqb (length row) n) true code node → n ≡ size p → m ≡ step_invalid p code node row
unfolding step_invalid
tested p code node row h e = h ∙ rw e

-- MESSAGES
module _ (p : List ℕ) (code node : ℕ) (row : List ℕ) where
  pub hear-valid : step_invalid p code node row ≡ 0 → hear_of p code node row ≡ stepped (hear row code node) Heard
  unfolding hear_of
  hear-valid h = rw (eq-eqb (step_invalid p code node row) 0 h)

  pub hear-invalid : (n : ℕ) → n ≡ step_invalid p code node row → (n ≡ 0 → ⊥) → hear_of p code node row ≡ stepped row (Refused (Invalid n))
  unfolding hear_of
  hear-invalid n e h = rw (← e, ne_eqb n 0 h)

-- STEPS, of site q
pub step-tested : (p : List ℕ) (code node : ℕ) (row : List ℕ) → step_invalid p code node row ≡ 0 → Valid p (eqb (length row) (size p)) true code node
unfolding step_invalid
step-tested p code node row h = valid p (eqb (length row) (size p)) true code node h

module _ (p : List ℕ) (q code node : ℕ) (row : List ℕ) where
  pub step-valid : step_invalid p code node row ≡ 0 → step_at p q code node row ≡ decide p q code node row
  unfolding step_at
  step-valid h = rw (eq-eqb (step_invalid p code node row) 0 h)

  pub step-invalid : (n : ℕ) → n ≡ step_invalid p code node row → (n ≡ 0 → ⊥) → step_at p q code node row ≡ stepped row (Refused (Invalid n))
  unfolding step_at
  step-invalid n e h = rw (← e, ne_eqb n 0 h)

  -- DECISIONS: 10, 11 and 0
  abbrev pub decision-10 : Stepped
  decision-10 = stepped row (Refused (Barred q))

  abbrev pub decision-11 : Stepped
  decision-11 = stepped row (Refused (Unmet q))

  abbrev pub decision-0 : Stepped
  decision-0 = stepped (hear row code node) (Passed (record { code = code; node = node; site = q; rule = rule_byte p (event_of code node) }))

  pub decide-barred : barred p (heard row) (event_of code node) ≡ true → decide p q code node row ≡ decision-10
  unfolding decide
  decide-barred b = rw b

  module _ (free : barred p (heard row) (event_of code node) ≡ false) where
    pub decide-unmet : holds (heard row) (guard p (event_of code node)) ≡ false → decide p q code node row ≡ decision-11
    unfolding decide
    decide-unmet g = rw (free, g)

    pub decide-passed : holds (heard row) (guard p (event_of code node)) ≡ true → decide p q code node row ≡ decision-0
    unfolding decide
    decide-passed g = rw (free, g)

  -- what holds of the three holds of the decision. P also has whether the event is barred, and whether its guard holds
  decide_by : (P : Bool → Bool → Stepped → Type 0) → ((g : Bool) → P true g decision-10) → P false false decision-11 → P false true decision-0 →
      P (barred p (heard row) (event_of code node)) (holds (heard row) (guard p (event_of code node))) (decide p q code node row)
  unfolding decide
  decide_by P x y z = three P x y z (barred p (heard row) (event_of code node)) (holds (heard row) (guard p (event_of code node)))

  -- the same of a step, with an invalid call's answer besides. P also has whether the call is valid
  pub step_by_lem : (P : Bool → Bool → Bool → Stepped → Type 0) → ((n : ℕ) → (n ≡ 0 → ⊥) → (b g : Bool) → P false b g (stepped row (Refused (Invalid n)))) →
      ((g : Bool) → P true true g decision-10) → P true false false decision-11 → P true false true decision-0 →
      P (eqb (step_invalid p code node row) 0) (barred p (heard row) (event_of code node)) (holds (heard row) (guard p (event_of code node))) (step_at p q code node row)
  step_by_lem P w x y z = cases (decided (eqb (step_invalid p code node row) 0))
      (λ e. rw (e, step-valid (eqb-true _ 0 e)) (decide_by (P true) x y z))
      (λ e. let h = eqb-false (step_invalid p code node row) 0 e in rw (e, step-invalid (step_invalid p code node row) refl h) (w (step_invalid p code node row) h _ _))

  -- which events pass
  pub step-passes : eqb (verdict_number (step_at p q code node row).verdict) 0
      ≡ (eqb (step_invalid p code node row) 0 && (not (barred p (heard row) (event_of code node)) && holds (heard row) (guard p (event_of code node))))
  unfolding report_of
  step-passes = step_by_lem (λ v b g s. eqb (verdict_number s.verdict) 0 ≡ (v && (not b && g))) (λ n h b g. ne_eqb n 0 h) (λ g. refl) refl refl

  -- an event that passes is set, and a refused step leaves the row
  pub step-leaves : (step_at p q code node row).row ≡ cond (eqb (verdict_number (step_at p q code node row).verdict) 0) (hear row code node) row
  unfolding report_of
  step-leaves = step_by_lem (λ v b g s. s.row ≡ cond (eqb (verdict_number s.verdict) 0) (hear row code node) row) (λ n h b g. rw (ne_eqb n 0 h)) (λ g. refl) refl refl

-- the number of a step is the same whatever number its site has
pub number-any-site : (p : List ℕ) (q r code node : ℕ) (row : List ℕ) → verdict_number (step_at p q code node row).verdict ≡ verdict_number (step_at p r code node row).verdict
unfolding step_at decide report_of
number-any-site p q r code node row = cases (decided (eqb (step_invalid p code node row) 0))
    (λ i. cases (decided (barred p (heard row) (event_of code node)))
    (λ b. rw (i, b))
    (λ b. cases (decided (holds (heard row) (guard p (event_of code node)))) (λ g. rw (i, b, g)) (λ g. rw (i, b, g))))
    (λ i. rw i)
