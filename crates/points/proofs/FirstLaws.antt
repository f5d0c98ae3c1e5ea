-- The first slot for which a test holds is the least one, and 16 where there is none: a name's slot, and the first free one. Assumes nothing.
use mathlib.Core.Path.{◌≡◌, refl, sym, ap}
use mathlib.Core.Bool.{Bool, true, false, not}
use mathlib.Core.List.{List}
use Prim.Native.Nat.{ℕ, zero, suc, ◌+◌, ◌≤◌, ◌<◌}
use native.Mathlib.Nat.{eq-or-lt_of_le}
use native.Mathlib.Omega.{arith}
use borrow.Author.Tests.{ltb-true, ltb-false, not-true, not-false}
use lib.Dec.{ltb}
use lib.ListN.{length}
use Rattle.std.specs.Prelude.{nat_eq}
use Rattle.std.specs.List.{position, position_or_len}
use Rattle.std.proofs.lemmas.List.Sums.{fails_before_first, passes_at_first}
use Rattle.lists.proofs.Logic.{cases, decided, no_bool, clash}
use Rattle.points.specs.Points.{in_use, slot_number, first_slot, has_name, slot_of, free_slot}

module _ (f : ℕ → Bool) where
  first-most : (n from : ℕ) → first_slot f n from ≤ from + n
  unfolding first_slot
  first-most zero from = omega arith
  first-most (suc n) from = cases (decided (f from)) (λ e. rw e (omega arith)) (λ e. rw e (omega (arith, first-most n (suc from))))

  first_holds : (n from : ℕ) → first_slot f n from < from + n → f (first_slot f n from) ≡ true
  unfolding first_slot
  first_holds zero from l = absurd (omega arith)
  first_holds (suc n) from l = cases (decided (f from)) (λ e. rw e e) (λ e. rw e (first_holds n (suc from) (let m = rw e at l in omega arith)))

  first-least : (n from i : ℕ) → from ≤ i → i < from + n → f i ≡ true → first_slot f n from ≤ i
  unfolding first_slot
  first-least zero from i l m t = absurd (omega arith)
  first-least (suc n) from i l m t = cases (decided (f from))
      (λ e. rw e l)
      (λ e. rw e (cases (eq-or-lt_of_le l) (λ q. clash (f i) t (rw (← q) e)) (λ q. first-least n (suc from) i q (omega arith) t)))

  first_out : ((i : ℕ) → i < 16 → f i ≡ false) → first_slot f 16 0 ≡ 16
  first_out h = cases (decided (ltb (first_slot f 16 0) 16))
      (λ e. let l = ltb-true (first_slot f 16 0) 16 e in clash (f (first_slot f 16 0)) (first_holds 16 0 l) (h (first_slot f 16 0) l))
      (λ e. omega (arith, ltb-false (first_slot f 16 0) 16 e, first-most 16 0))

  first-is : (k : ℕ) → k < 16 → f k ≡ true → ((j : ℕ) → j < k → f j ≡ false) → first_slot f 16 0 ≡ k
  first-is k l t h =
      let m = first-least 16 0 k (omega arith) l t in
      cases (decided (ltb (first_slot f 16 0) k))
      (λ e. let q = ltb-true (first_slot f 16 0) k e in clash (f (first_slot f 16 0)) (first_holds 16 0 (omega arith)) (h (first_slot f 16 0) q))
      (λ e. let q = ltb-false (first_slot f 16 0) k e in omega arith)

  first-same : (g : ℕ → Bool) (n from : ℕ) → ((i : ℕ) → i < from + n → f i ≡ g i) → first_slot f n from ≡ first_slot g n from
  unfolding first_slot
  first-same g zero from h = refl
  first-same g (suc n) from h = rw (h from (omega arith), first-same g n (suc from) (λ i l. h i (omega arith)))

module _ (names places name : List ℕ) where
  pub slot_has : slot_of names places name < 16 → has_name names places name (slot_of names places name) ≡ true
  unfolding slot_of
  slot_has l = first_holds (has_name names places name) 16 0 l

  pub slot-least : (i : ℕ) → i < 16 → has_name names places name i ≡ true → slot_of names places name ≤ i
  unfolding slot_of
  slot-least i l t = first-least (has_name names places name) 16 0 i (omega arith) l t

  pub slot-none : 16 ≤ slot_of names places name → (i : ℕ) → i < 16 → has_name names places name i ≡ false
  slot-none h i l = no_bool (has_name names places name i) (λ t. omega (arith, slot-least i l t))

  pub slot-out : ((i : ℕ) → i < 16 → has_name names places name i ≡ false) → slot_of names places name ≡ 16
  unfolding slot_of
  slot-out h = first_out (has_name names places name) h

  pub slot_same : (names' places' : List ℕ) → ((i : ℕ) → i < 16 → has_name names' places' name i ≡ has_name names places name i) → slot_of names' places' name ≡ slot_of names places name
  unfolding slot_of
  slot_same names' places' h = first-same (has_name names' places' name) (has_name names places name) 16 0 h

module _ (places : List ℕ) where
  abbrev is_free : ℕ → Bool
  is_free i = not (in_use places i)

  pub free-found : free_slot places < 16 → in_use places (free_slot places) ≡ false
  unfolding free_slot
  free-found l = not-true (in_use places (free_slot places)) (first_holds is_free 16 0 l)

  pub free-none : 16 ≤ free_slot places → (i : ℕ) → i < 16 → in_use places i ≡ true
  unfolding free_slot
  free-none h i l = not-false (in_use places i) (no_bool (is_free i) (λ t. omega (arith, first-least is_free 16 0 i (omega arith) l t)))

  -- by the first word that is 0
  pub free-position : length places ≡ 16 → slot_number (position (λ w. nat_eq w 0) places) ≡ free_slot places
  unfolding free_slot
  free-position long =
      let k : ℕ = position_or_len (λ w. nat_eq w 0) places in
      let before : (j : ℕ) → j < k → is_free j ≡ false = λ j l. ap (λ b. not (not b)) (fails_before_first (λ w. nat_eq w 0) places j 0 l) in
      cases (decided (ltb k (length places)))
      (λ e. let l = ltb-true k (length places) e in rw e (sym (first-is is_free k (omega arith) (ap (λ b. not (not b)) (passes_at_first (λ w. nat_eq w 0) places 0 l)) before)))
      (λ e. let l = ltb-false k (length places) e in rw e (sym (first_out is_free (λ i m. before i (omega arith)))))

  pub free-out : ((i : ℕ) → i < 16 → in_use places i ≡ true) → free_slot places ≡ 16
  unfolding free_slot
  free-out h = first_out is_free (λ i l. ap not (h i l))
