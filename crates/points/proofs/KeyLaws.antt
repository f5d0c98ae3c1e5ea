-- Two names have the same number just if they are the same, byte for byte. Assumes nothing.
use mathlib.Core.Path.{◌≡◌, sym, ◌∙◌, ap}
use mathlib.Core.Bool.{Bool, true, false}
use mathlib.Core.List.{List}
use Prim.Native.Nat.{ℕ, ◌+◌, ◌*◌, ◌<◌}
use native.Mathlib.Omega.{arith}
use borrow.Author.Tests.{eq-eqb, ne_eqb, eqb-true}
use lib.Dec.{eqb}
use lib.ListN.{get_or}
use Rattle.lists.specs.Seq.{all_below}
use Rattle.lists.proofs.Logic.{no_bool}
use Rattle.lists.proofs.Below.{below_at}
use Rattle.points.specs.Keys.{half_at, key_at}
use Rattle.points.specs.Points.{name_at, same_name, has_name}
use Rattle.points.proofs.SlotLaws.{name-byte}

-- bytes
abbrev pub Small : List ℕ → Type 0
Small bs = (i : ℕ) → get_or bs i 0 < 256

-- the lowest digit of a number, and the rest
digit : (a b c d : ℕ) → a < 256 → b < 256 → a + 256 * c ≡ b + 256 * d → (a ≡ b) × (c ≡ d)
digit a b c d l m e = (omega arith, omega arith)

half-small : (bs : List ℕ) (at : ℕ) → Small bs → half_at bs at < 4294967296
unfolding half_at
half-small bs at s = omega (arith, s at, s (at + 1), s (at + 2), s (at + 3))

module _ (xs ys : List ℕ) (a b : ℕ) (sx : Small xs) (sy : Small ys) where
  record Half : Type 0 where
    first : get_or xs a 0 ≡ get_or ys b 0
    second : get_or xs (a + 1) 0 ≡ get_or ys (b + 1) 0
    third : get_or xs (a + 2) 0 ≡ get_or ys (b + 2) 0
    fourth : get_or xs (a + 3) 0 ≡ get_or ys (b + 3) 0

  half-same : half_at xs a ≡ half_at ys b → Half
  unfolding half_at
  half-same e =
      let d₁ = digit _ _ _ _ (sx a) (sy b) e in
      let d₂ = digit _ _ _ _ (sx (a + 1)) (sy (b + 1)) d₁.1 in
      let d₃ = digit _ _ _ _ (sx (a + 2)) (sy (b + 2)) d₂.1 in
      record { first = d₁.0; second = d₂.0; third = d₃.0; fourth = d₃.1 }

  halves : key_at xs a ≡ key_at ys b → (half_at xs a ≡ half_at ys b) × (half_at xs (a + 4) ≡ half_at ys (b + 4))
  unfolding key_at
  halves e = let l = half-small xs a sx in let m = half-small ys b sy in (omega arith, omega arith)

-- NAMES
module _ (names : List ℕ) (i : ℕ) (name : List ℕ) (sn : Small names) (sm : Small name) where
  abbrev at : ℕ
  at = 8 * i

  abbrev same : ℕ → Bool
  same j = eqb (get_or (name_at names i) j 0) (get_or name j 0)

  -- byte j is the same
  by_byte : (j : ℕ) → j < 8 → get_or names (at + j) 0 ≡ get_or name j 0 → same j ≡ true
  by_byte j l e = eq-eqb (get_or (name_at names i) j 0) (get_or name j 0) (name-byte names i j l ∙ e)

  of-byte : same_name (name_at names i) name ≡ true → (j : ℕ) → j < 8 → get_or names (at + j) 0 ≡ get_or name j 0
  unfolding same_name
  of-byte h j l = sym (name-byte names i j l) ∙ eqb-true (get_or (name_at names i) j 0) (get_or name j 0) (below_at same 8 j h l)

  -- a byte of the names, by another way to its place
  moved : (m n : ℕ) → m ≡ n → get_or names m 0 ≡ get_or names n 0
  moved m n e = ap (λ (k : ℕ). get_or names k 0) e

  key-same : key_at names at ≡ key_at name 0 → same_name (name_at names i) name ≡ true
  unfolding same_name all_below
  key-same e =
      let h = halves names name at 0 sn sm e in
      let l = half-same names name at 0 sn sm h.0 in
      let m = half-same names name (at + 4) (0 + 4) sn sm h.1 in
      rw (
        by_byte 0 (omega arith) (moved (at + 0) at (omega arith) ∙ l.first),
        by_byte 1 (omega arith) l.second,
        by_byte 2 (omega arith) l.third,
        by_byte 3 (omega arith) l.fourth,
        by_byte 4 (omega arith) m.first,
        by_byte 5 (omega arith) (moved (at + 5) (at + 4 + 1) (omega arith) ∙ m.second),
        by_byte 6 (omega arith) (moved (at + 6) (at + 4 + 2) (omega arith) ∙ m.third),
        by_byte 7 (omega arith) (moved (at + 7) (at + 4 + 3) (omega arith) ∙ m.fourth),
      )

  same_key : same_name (name_at names i) name ≡ true → key_at names at ≡ key_at name 0
  unfolding key_at half_at
  same_key h = rw (
    moved at (at + 0) (omega arith) ∙ of-byte h 0 (omega arith),
    of-byte h 1 (omega arith),
    of-byte h 2 (omega arith),
    of-byte h 3 (omega arith),
    of-byte h 4 (omega arith),
    moved (at + 4 + 1) (at + 5) (omega arith) ∙ of-byte h 5 (omega arith),
    moved (at + 4 + 2) (at + 6) (omega arith) ∙ of-byte h 6 (omega arith),
    moved (at + 4 + 3) (at + 7) (omega arith) ∙ of-byte h 7 (omega arith),
  )

  key-other : (key_at names at ≡ key_at name 0 → ⊥) → same_name (name_at names i) name ≡ false
  key-other h = no_bool (same_name (name_at names i) name) (λ e. h (same_key e))

  -- a slot has the name, or not: r is its number, and w the name's
  module _ (places : List ℕ) (used : get_or places i 0 ≡ 0 → ⊥) (r w : ℕ) (own : r ≡ key_at names at) (wanted : w ≡ key_at name 0) where
    pub key_has : r ≡ w → has_name names places name i ≡ true
    key_has e = rw (ne_eqb (get_or places i 0) 0 used) (key-same (sym own ∙ e ∙ wanted))

    pub key-has-not : (r ≡ w → ⊥) → has_name names places name i ≡ false
    key-has-not h = rw (ne_eqb (get_or places i 0) 0 used) (key-other (λ e. h (own ∙ e ∙ sym wanted)))

-- a free slot has none
pub free-has-not : (names places name : List ℕ) (i : ℕ) → get_or places i 0 ≡ 0 → has_name names places name i ≡ false
free-has-not names places name i e = rw (eq-eqb (get_or places i 0) 0 e)
