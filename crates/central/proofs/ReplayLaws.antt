-- Asking the function of one event after another: the answers are those of the rule, and the bytes stand for the state. Assumes nothing.
use mathlib.Core.Path.{◌≡◌, refl, sym, ap, ◌∙◌, fun_ext}
use mathlib.Core.Bool.{true, false}
use mathlib.Core.List.{List, [], ◌∷◌}
use Prim.Native.Nat.{ℕ, zero, suc, ◌<◌}
use native.Mathlib.Omega.{arith}
use lib.Dec.{eqb}
use lib.ListN.{length, get_or, replicate, length-set, length-replicate}
use lib.Seq.{get_or-set_same}
use borrow.Author.Tests.{eqb-true, eqb-false, eq-eqb, ltb-true}
use Rattle.lists.proofs.Logic.{cases, decided, and_left, and_right, and-join, clash}
use Rattle.plan.specs.Plan.{size}
use Rattle.plan.specs.Check.{Accepted}
use Rattle.plan.proofs.Main.{fit-exact}
use Rattle.event.specs.Event.{Code, answered-yes, answered-no, pick, code_number, Event, event_of, applies, known}
use Rattle.event.specs.Bit.{with_bit}
use Rattle.event.specs.Valid.{invalid}
use Rattle.event.proofs.CodeLaws.{code-back, code_is}
use Rattle.event.proofs.BitLaws.{with-small, no-bit}
use Rattle.event.proofs.ValidLaws.{fault-none, invalid-fault, valid}
use Rattle.central.specs.Mark.{mark_number, mark_of}
use Rattle.central.specs.Central.{fresh, after, allowed, run_from, reaches}
use Rattle.central.specs.Rule.{answer_of, state_of, marks_after, notes_after, right_size, ruled, ruling_value}
use Rattle.central.specs.Replay.{ask, all_allowed, marks_left, notes_left, blank_bytes}
use Rattle.central.specs.Ruling.{Allowed}
use Rattle.central.proofs.MarkLaws.{mark-back}
use Rattle.central.proofs.RuleLaws.{rule-refused, rule-forbidden, rule-allowed}
use Rattle.central.proofs.StateLaws.{state-by, marks-by, notes-by, mark-other, note-other, advance-exact}

-- bytes of the right size, of which marks are marks' numbers
pub record Proper (p marks notes : List ℕ) : Type 0 where
  pub marks-long : length marks ≡ size p
  pub notes-long : length notes ≡ size p
  pub small : (v : ℕ) → get_or notes v 0 < 256
  pub plain : (v : ℕ) → get_or marks v 0 ≡ mark_number (mark_of (get_or marks v 0))

zeros-at : (n v : ℕ) → get_or {A = ℕ} (replicate n 0) v 0 ≡ 0
zeros-at zero v = refl
zeros-at (suc n) zero = refl
zeros-at (suc n) (suc v) = zeros-at n v

pub blank-proper : (p : List ℕ) → Proper p (blank_bytes p) (blank_bytes p)
unfolding mark_of mark_number
blank-proper p = record {
  marks-long = length-replicate (size p) 0;
  notes-long = length-replicate (size p) 0;
  small = λ v. rw (zeros-at (size p) v) (omega arith);
  plain = λ v. rw (zeros-at (size p) v);
}

pub blank-fresh : (p : List ℕ) → state_of (blank_bytes p) (blank_bytes p) ≡ fresh
unfolding state_of fresh mark_of answer_of
blank-fresh p = state-by _ _
    (fun_ext (λ v. rw (zeros-at (size p) v)))
    (fun_ext (λ v. rw (zeros-at (size p) v, no-bit answered-yes, no-bit answered-no)))
    (fun_ext (λ v. rw (zeros-at (size p) v) (no-bit pick)))

module _ (p : List ℕ) (ok : Accepted p) (marks notes : List ℕ) (proper : Proper p marks notes) (e : Event) where
  -- which of the tests 1 to 9 an event may fail: 8 or 9
  sized : right_size p marks notes ≡ true
  unfolding right_size
  sized = and-join _ _ (eq-eqb (length marks) (size p) proper.marks-long) (eq-eqb (length notes) (size p) proper.notes-long)

  same-event : event_of (code_number e.code) e.node ≡ e
  same-event = ap (λ (c : Code). record { code = c; node = e.node }) (code-back e.code)

  applied : applies p e ≡ true → invalid p (right_size p marks notes) true (code_number e.code) e.node ≡ 0
  unfolding applies known
  applied h =
      invalid-fault p _ true _ _ ((fit-exact p _).none.1 (ok, sized))
      ∙ fault-none p true _ _ refl (and-join _ _ (code_is e.code) (and_left _ _ h)) (ap (applies p) same-event ∙ h)

  not-applied : applies p e ≡ false → invalid p (right_size p marks notes) true (code_number e.code) e.node ≡ 0 → ⊥
  not-applied h z = clash (applies p e) (ap (applies p) (sym same-event) ∙ (valid p _ true _ _ z).applied) h

  pub ask-allowed : allowed p (state_of marks notes) e ≡ true → ask p e marks notes ≡ ruled (marks_after e.code e.node marks) (notes_after e.code e.node notes) Allowed
  unfolding allowed
  ask-allowed h =
      rule-allowed p marks notes _ _ 0 (sym (applied (and_left _ _ h))) refl (ap (allowed p (state_of marks notes)) same-event ∙ h)
      ∙ rw (code-back e.code)

  pub ask-other : allowed p (state_of marks notes) e ≡ false → eqb (ruling_value (ask p e marks notes).ruling) 1 ≡ false
  unfolding ruling_value
  ask-other h = cases (decided (applies p e))
      (λ a. rw (rule-forbidden p marks notes (code_number e.code) e.node 0 (sym (applied a)) refl (ap (allowed p (state_of marks notes)) same-event ∙ h)))
      (λ a. rw (rule-refused p marks notes (code_number e.code) e.node _ refl (not-applied a)))

  -- the bytes stay proper
  proper-after : e.node < size p → Proper p (marks_after e.code e.node marks) (notes_after e.code e.node notes)
  proper-after l = record {
    marks-long = marks-by c v marks (λ s. length s ≡ size p) proper.marks-long (λ m. length-set marks v (mark_number m) ∙ proper.marks-long);
    notes-long = notes-by c v notes (λ s. length s ≡ size p) proper.notes-long (length-set notes v _ ∙ proper.notes-long);
    small = λ w. cases (decided (eqb w v))
        (λ q. rw (eqb-true w v q) (notes-by c v notes (λ s. get_or s v 0 < 256) (proper.small v)
        (rw (get_or-set_same notes v (with_bit (get_or notes v 0) (code_number c)) 0 (omega (arith, proper.notes-long))) (with-small c (get_or notes v 0) (proper.small v)))))
        (λ q. rw (note-other c v notes w (eqb-false w v q)) (proper.small w));
    plain = λ w. cases (decided (eqb w v))
        (λ q. rw (eqb-true w v q) (marks-by c v marks (λ s. get_or s v 0 ≡ mark_number (mark_of (get_or s v 0))) (proper.plain v)
        (λ m. rw (get_or-set_same marks v (mark_number m) 0 (omega (arith, proper.marks-long)), mark-back m))))
        (λ q. rw (mark-other c v marks w (eqb-false w v q)) (proper.plain w));
  }
    where
      c : Code
      c = e.code

      v : ℕ
      v = e.node

  -- what is known after an allowed event
  module _ (h : allowed p (state_of marks notes) e ≡ true) where
    pub next-proper : Proper p (marks_after e.code e.node marks) (notes_after e.code e.node notes)
    unfolding allowed applies
    next-proper = proper-after (ltb-true e.node (size p) (and_left _ _ (and_left _ _ h)))

    pub next-state : state_of (marks_after e.code e.node marks) (notes_after e.code e.node notes) ≡ after (state_of marks notes) e
    next-state = advance-exact p marks notes e proper.marks-long proper.notes-long proper.small h

module _ (p : List ℕ) (ok : Accepted p) where
  pub runs-from : (es : List Event) (marks notes : List ℕ) → Proper p marks notes → all_allowed p es marks notes ≡ run_from p (state_of marks notes) es
  unfolding all_allowed run_from ruling_value
  runs-from [] marks notes proper = refl
  runs-from (e ∷ es) marks notes proper = cases (decided (allowed p (state_of marks notes) e))
      (λ h. rw (h, ask-allowed p ok marks notes proper e h, ← next-state p ok marks notes proper e h)
      (runs-from es _ _ (next-proper p ok marks notes proper e h)))
      (λ h. rw (h, ask-other p ok marks notes proper e h))

  pub left_by : (es : List Event) (marks notes : List ℕ) → Proper p marks notes → run_from p (state_of marks notes) es ≡ true →
      Proper p (marks_left p es marks notes) (notes_left p es marks notes)
      × (state_of (marks_left p es marks notes) (notes_left p es marks notes) ≡ reaches (state_of marks notes) es)
  unfolding run_from marks_left notes_left reaches
  left_by [] marks notes proper h = (proper, refl)
  left_by (e ∷ es) marks notes proper h =
      let a = and_left _ _ h in
      rw (ask-allowed p ok marks notes proper e a, ← next-state p ok marks notes proper e a)
      (left_by es _ _ (next-proper p ok marks notes proper e a) (rw (← next-state p ok marks notes proper e a) at (and_right (allowed p (state_of marks notes) e) _ h)))
