-- Laws of digits and of a line. Assumes nothing.
use mathlib.Core.Path.{◌≡◌, sym, ◌∙◌, ap}
use mathlib.Core.Bool.{Bool, true, false, not, and-true, and-false, or-false}
use mathlib.Core.List.{List}
use Prim.Native.Nat.{ℕ, ◌+◌, ◌-◌, ◌*◌, ◌≤◌, ◌<◌}
use native.Mathlib.Omega.{arith}
use borrow.Author.Tests.{leb-true, leb-false, le-leb, lt-leb, eqb-true, not-true, not-false}
use lib.Dec.{eqb, leb}
use lib.ListN.{length, get_or, get_or-eq_default}
use Rattle.lists.specs.Seq.{all_below}
use Rattle.lists.proofs.Logic.{cases, decided, clash, and_left, and_right}
use Rattle.lists.proofs.Below.{below_more, below-stop, below_end}
use Rattle.text.specs.Hex.{is_digit, value_of, digit_at, is_line}

-- a byte up to 57, between the digits and the letters, from 97 on
pub digit_low : (b : ℕ) → b ≤ 57 → leb 48 b ≡ is_digit b
unfolding is_digit
digit_low b l = rw (le-leb b 57 l, lt-leb 97 b (omega arith), and-true, or-false)

pub digit-between : (b : ℕ) → 57 < b → b < 97 → false ≡ is_digit b
unfolding is_digit
digit-between b l m = rw (lt-leb b 57 l, lt-leb 97 b m, and-false)

pub digit-letter : (b : ℕ) → 97 ≤ b → leb b 102 ≡ is_digit b
unfolding is_digit
digit-letter b l = rw (le-leb 48 b (omega arith), lt-leb b 57 (omega arith), le-leb 97 b l)

-- the ranges of a match: 0 to 9, a to f, and what is left
pub is_low : (b : ℕ) → 48 ≤ b → b ≤ 57 → true ≡ is_digit b
is_low b l m = sym (le-leb 48 b l) ∙ digit_low b m

pub is_letter : (b : ℕ) → 97 ≤ b → b ≤ 102 → true ≡ is_digit b
is_letter b l m = sym (le-leb b 102 m) ∙ digit-letter b l

pub no_digit_below : (b : ℕ) → b < 48 → false ≡ is_digit b
no_digit_below b l = sym (lt-leb 48 b l) ∙ digit_low b (omega arith)

pub no_digit_above : (b : ℕ) → 102 < b → false ≡ is_digit b
no_digit_above b l = sym (lt-leb b 102 l) ∙ digit-letter b (omega arith)

pub digit_not : (b : ℕ) → is_digit b ≡ false → 0 ≡ value_of b
unfolding value_of
digit_not b h = rw h

-- what a digit's value is
module _ (b : ℕ) (h : is_digit b ≡ true) where
  pub low-least : b ≤ 57 → 48 ≤ b
  low-least l = leb-true 48 b (digit_low b l ∙ h)

  pub low_value : b ≤ 57 → b - 48 ≡ value_of b
  unfolding value_of
  low_value l = rw (h, le-leb b 57 l)

  pub high-least : 57 < b → 97 ≤ b
  high-least l = cases (decided (leb 97 b)) (λ e. leb-true 97 b e) (λ e. clash (is_digit b) h (sym (digit-between b l (leb-false 97 b e))))

  pub high-most : 57 < b → b ≤ 102
  high-most l = leb-true b 102 (digit-letter b (high-least l) ∙ h)

  pub high_value : 57 < b → b - 87 ≡ value_of b
  unfolding value_of
  high_value l = rw (h, lt-leb b 57 l)

  pub digit_value : value_of b < 16
  digit_value = cases (decided (leb b 57))
      (λ e. let l = leb-true b 57 e in omega (arith, low-least l, low_value l))
      (λ e. let l = leb-false b 57 e in omega (arith, high-least l, high-most l, high_value l))

pub value_low : (b : ℕ) → 48 ≤ b → b ≤ 57 → b - 48 ≡ value_of b
value_low b l m = low_value b (sym (is_low b l m)) m

pub value_letter : (b : ℕ) → 97 ≤ b → b ≤ 102 → b - 97 + 10 ≡ value_of b
value_letter b l m = let e = high_value b (sym (is_letter b l m)) (omega arith) in omega (arith, e)

pub value-small : (b : ℕ) → value_of b < 16
value-small b = cases (decided (is_digit b)) (λ e. digit_value b e) (λ e. omega (arith, digit_not b e))

-- the test of a line, byte by byte: b is the byte at i, r what the code answered of it
module _ (t : List ℕ) (i : ℕ) where
  answered : (b : ℕ) (r : Bool) → b ≡ get_or t i 0 → r ≡ is_digit b → digit_at t i ≡ r
  unfolding digit_at
  answered b r e f = ap is_digit (sym e) ∙ sym f

  pub line-stop : (k b : ℕ) (r : Bool) → i < 2 * k → b ≡ get_or t i 0 → r ≡ is_digit b → not r ≡ true → false ≡ is_line k t
  unfolding is_line
  line-stop k b r l e f h = rw (below-stop (digit_at t) (2 * k) i l (answered b r e f ∙ not-true r h))

  pub line-more : (b : ℕ) (r : Bool) → all_below (digit_at t) i ≡ true → b ≡ get_or t i 0 → r ≡ is_digit b → not r ≡ false → all_below (digit_at t) (i + 1) ≡ true
  line-more b r g e f h = below_more (digit_at t) i g (answered b r e f ∙ not-false r h)

  pub line-end : (k b : ℕ) → all_below (digit_at t) i ≡ true → i ≤ 2 * k → 2 * k ≤ i → b ≡ get_or t (2 * k) 0 → eqb b 10 ≡ is_line k t
  unfolding is_line
  line-end k b g l m e = rw (below_end (digit_at t) (2 * k) i g l m, e)

-- what a line has: digits, a line feed, and so its bytes
module _ (k : ℕ) (t : List ℕ) (h : is_line k t ≡ true) where
  pub line-digits : all_below (digit_at t) (2 * k) ≡ true
  unfolding is_line
  line-digits = and_left (all_below (digit_at t) (2 * k)) (eqb (get_or t (2 * k) 0) 10) h

  pub line-feed : get_or t (2 * k) 0 ≡ 10
  unfolding is_line
  line-feed = eqb-true (get_or t (2 * k) 0) 10 (and_right (all_below (digit_at t) (2 * k)) (eqb (get_or t (2 * k) 0) 10) h)

  pub line-long : 2 * k + 1 ≤ length t
  line-long = cases (decided (leb (2 * k + 1) (length t)))
      (λ e. leb-true (2 * k + 1) (length t) e)
      (λ e. let l : length t ≤ 2 * k = omega (arith, leb-false (2 * k + 1) (length t) e) in
      absurd (omega (arith, line-feed, get_or-eq_default t 0 l)))
