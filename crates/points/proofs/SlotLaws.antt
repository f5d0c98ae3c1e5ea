-- The first slot for which a test holds, and a slot's name (specs/Points.antt). Assumes nothing.
use mathlib.Core.Path.{◌≡◌, sym, ◌∙◌}
use mathlib.Core.Bool.{Bool, true, false, not, ◌||◌}
use mathlib.Core.List.{List}
use Prim.Native.Nat.{ℕ, suc, ◌+◌, ◌*◌, ◌-◌, ◌≤◌, ◌<◌}
use native.Mathlib.Numerals.{add-one}
use native.Mathlib.Omega.{arith}
use borrow.Author.Tests.{eq-eqb, ne_eqb, lt-ltb, le-ltb, ltb-true, ltb-false, eqb-true, eqb-false, not-true, not-false}
use lib.Dec.{eqb, ltb}
use lib.ListN.{length, get_or, take, drop, length-drop}
use lib.Seq.{get_or-take, get_or-drop, length-take-le}
use Rattle.std.specs.Prelude.{Option, Some, None}
use Rattle.std.specs.Option.{option_eq}
use Rattle.lists.proofs.Logic.{cases, decided}
use Rattle.points.specs.Points.{slot_number, first_slot, name_at, in_use}

module _ (f : ℕ → Bool) (i : ℕ) where
  pub slot-found : i < 16 → f i ≡ true → first_slot f (16 - i) i ≡ i
  unfolding first_slot
  slot-found l t = let e : 16 - i ≡ suc (15 - i) = omega arith in rw (e, t)

  pub slot-on : i < 16 → f i ≡ false → first_slot f (16 - i) i ≡ first_slot f (16 - (i + 1)) (i + 1)
  unfolding first_slot
  slot-on l t = let e : 16 - i ≡ suc (15 - i) = omega arith in
      let d : 16 - (i + 1) ≡ 15 - i = omega arith in
      rw (e, t, d, add-one i)

  pub slot-end : 16 ≤ i → i ≤ 16 → first_slot f (16 - i) i ≡ 16
  unfolding first_slot
  slot-end l m = let e : 16 - i ≡ 0 = omega arith in
      let d : i ≡ 16 = omega arith in
      rw (e, d)

-- a slot that was looked for is i, or is not
pub slot-like : (o : Option ℕ) (i : ℕ) → not (option_eq eqb o (Some i)) ≡ false → slot_number o ≡ i
slot-like (Some j) i t = eqb-true j i (not-false (eqb j i) t)
slot-like None i t = cc

pub slot-unlike : (o : Option ℕ) (i : ℕ) → i < 16 → not (option_eq eqb o (Some i)) ≡ true → slot_number o ≡ i → ⊥
slot-unlike (Some j) i l t e = eqb-false j i (not-true (eqb j i) t) e
slot-unlike None i l t e = omega arith

-- byte j of slot i's name
pub name-byte : (names : List ℕ) (i j : ℕ) → j < 8 → get_or (name_at names i) j 0 ≡ get_or names (8 * i + j) 0
name-byte names i j l = get_or-take 8 (drop (8 * i) names) j 0 l ∙ get_or-drop (8 * i) names j 0

-- a word says a point past the count, or none
pub past-free : (n k : ℕ) → n ≡ 0 → ltb (suc k) n ≡ false
past-free n k e = le-ltb (suc k) n (omega arith)

pub past_is : (n k : ℕ) → (n ≡ 0 → ⊥) → ltb k (n - 1) ≡ ltb (suc k) n
past_is n k e = cases (decided (ltb k (n - 1)))
    (λ t. let l = ltb-true k (n - 1) t in t ∙ sym (lt-ltb (suc k) n (omega arith)))
    (λ t. let l = ltb-false k (n - 1) t in t ∙ sym (le-ltb (suc k) n (omega arith)))

-- slot i is free, or the first slot of its name is s
module _ (places : List ℕ) (i s : ℕ) where
  pub once-free : get_or places i 0 ≡ 0 → (not (in_use places i) || eqb s i) ≡ true
  once-free e = rw (eq-eqb (get_or places i 0) 0 e)

  module _ (used : get_or places i 0 ≡ 0 → ⊥) where
    pub once-own : s ≡ i → (not (in_use places i) || eqb s i) ≡ true
    once-own e = rw (ne_eqb (get_or places i 0) 0 used, eq-eqb s i e)

    pub once-not : (s ≡ i → ⊥) → (not (in_use places i) || eqb s i) ≡ false
    once-not e = rw (ne_eqb (get_or places i 0) 0 used, ne_eqb s i e)

-- the part of the names that is slot i's name
pub name-part : (names : List ℕ) (i m : ℕ) → m ≡ 8 * i + 8 - 8 * i → take m (drop (8 * i) names) ≡ name_at names i
name-part names i m e = let d : m ≡ 8 = omega arith in rw d

pub name-long : (names : List ℕ) (i m : ℕ) → length names ≡ 128 → i < 16 → m ≡ 8 * i + 8 - 8 * i → length (take m (drop (8 * i) names)) ≡ 8
name-long names i m l h e = let d : m ≡ 8 = omega arith in rw d (length-take-le 8 (drop (8 * i) names) (omega (arith, length-drop (8 * i) names)))
