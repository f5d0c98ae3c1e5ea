-- How the code's writes advance the bytes, by the number of the code. Assumes nothing.
use mathlib.Core.Path.{◌≡◌, refl}
use mathlib.Core.List.{List}
use mathlib.Core.Logic.{⊎_elim}
use Prim.Native.Nat.{ℕ, zero, suc, ◌≤◌, ◌<◌}
use native.Mathlib.Nat.{le_antisymm}
use native.Mathlib.Omega.{arith}
use lib.ListN.{get_or, set}
use Rattle.event.specs.Event.{code_number, code_of}
use Rattle.event.specs.Bit.{with_bit}
use Rattle.central.specs.Mark.{mark_number}
use Rattle.central.specs.Central.{mark_after}
use Rattle.central.specs.Rule.{noted, marks_after, notes_after}
use Rattle.central.proofs.Tests.{three}

module _ (v : ℕ) (marks notes : List ℕ) where
  pub advance-mark : (code : ℕ) → 1 ≤ code → code ≤ 4 → (set marks v code ≡ marks_after (code_of code) v marks) × (notes ≡ notes_after (code_of code) v notes)
  unfolding marks_after notes_after noted mark_after mark_number code_of
  advance-mark zero a b = absurd (omega arith)
  advance-mark (suc zero) a b = (refl, refl)
  advance-mark (suc (suc zero)) a b = (refl, refl)
  advance-mark (suc (suc (suc zero))) a b = (refl, refl)
  advance-mark (suc (suc (suc (suc zero)))) a b = (refl, refl)
  advance-mark (suc (suc (suc (suc (suc code))))) a b = absurd (omega arith)

  pub advance-note : (code : ℕ) → 5 ≤ code → code ≤ 7 →
      (marks ≡ marks_after (code_of code) v marks) × (set notes v (with_bit (get_or notes v 0) code) ≡ notes_after (code_of code) v notes)
  unfolding marks_after notes_after noted code_of code_number
  advance-note code a b = ⊎_elim (λ e. rw e (refl, refl)) (⊎_elim (λ e. rw e (refl, refl)) (λ e. rw e (refl, refl))) (three 5 code a b)

  pub advance-down : (code : ℕ) → 7 < code → code ≤ 8 → (set marks v 5 ≡ marks_after (code_of code) v marks) × (notes ≡ notes_after (code_of code) v notes)
  unfolding marks_after notes_after noted mark_after mark_number code_of
  advance-down code a b = let e : code ≡ 8 = le_antisymm b a in rw e (refl, refl)
