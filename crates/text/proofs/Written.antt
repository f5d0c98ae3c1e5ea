-- A well-formed text is the text of the lines that are read of it. Assumes nothing.
use mathlib.Core.Path.{◌≡◌, refl, sym, ◌∙◌, ap}
use mathlib.Core.Bool.{true, false, ◌&&◌}
use mathlib.Core.List.{List, [], ◌∷◌, ◌++◌, map, flat_map, append_assoc, append-nil}
use Prim.Native.Nat.{ℕ, zero, suc, ◌+◌, ◌-◌, ◌*◌, ◌/◌, ◌%◌, ◌<◌}
use native.Mathlib.Nat.{mul-suc, mul-zero, add_comm}
use native.Mathlib.Numerals.{add-one}
use native.Mathlib.Omega.{arith}
use borrow.Author.Tests.{leb-true, leb-false, eqb-true, eq-eqb, lt-ltb, le-ltb}
use lib.Arith.{digits_div, digits_mod}
use lib.Dec.{eqb, leb, ltb}
use lib.ListN.{length, get_or, take, drop, take-append-drop, drop_of_length-le}
use lib.Seq.{drop-drop, take-suc}
use Rattle.lists.specs.Seq.{all, up_from, table}
use Rattle.lists.proofs.Logic.{cases, decided, and_left, and_right, and-join}
use Rattle.lists.proofs.Below.{below_at}
use Rattle.lists.proofs.PutLaws.{drop-turn}
use Rattle.text.specs.Hex.{is_digit, value_of, digit_of, digit_at, is_line, line_byte, line_bytes, hex_line}
use Rattle.text.specs.Text.{lines_within, lines, is_bar, has_table, body, plan_lines, bar_text, step_text, step_lines, body_formed, well_formed, head_of, body_of, text_of, table_in, is_bytes, are_lines, is_head}
use Rattle.text.proofs.HexLaws.{low-least, low_value, high-least, high_value, value-small, line-digits, line-feed, line-long}
use Rattle.text.proofs.TextLaws.{bar-long, table_at, no-table-body, formed-bar, formed-steps, formed-body}
use Rattle.text.proofs.DecodeLaws.{line-length}

-- a digit is that of its value
digit-back : (b : ℕ) → is_digit b ≡ true → digit_of (value_of b) ≡ b
unfolding digit_of
digit-back b h = cases (decided (leb b 57))
    (λ e. let l = leb-true b 57 e in
    let v = sym (low_value b h l) in
    rw (v, lt-ltb (b - 48) 10 (omega arith)) (omega (arith, low-least b h l)))
    (λ e. let l = leb-false b 57 e in
    let v = sym (high_value b h l) in
    rw (v, le-ltb (b - 87) 10 (omega (arith, high-least b h l))) (omega (arith, high-least b h l)))

-- the digits of byte i of a line
module _ (k : ℕ) (t : List ℕ) (h : is_line k t ≡ true) (i : ℕ) (l : i < k) where
  digit_at_lem : (j : ℕ) → j < 2 * k → is_digit (get_or t j 0) ≡ true
  unfolding digit_at
  digit_at_lem j m = below_at (digit_at t) (2 * k) j (line-digits k t h) m

  high_digit : digit_of (line_byte t i / 16) ≡ get_or t (2 * i) 0
  unfolding line_byte
  high_digit = rw (digits_div (value_of (get_or t (2 * i) 0)) (value-small (get_or t (2 * i + 1) 0))) (digit-back (get_or t (2 * i) 0) (digit_at_lem (2 * i) (omega arith)))

  low_digit : digit_of (line_byte t i % 16) ≡ get_or t (2 * i + 1) 0
  unfolding line_byte
  low_digit = rw (digits_mod (value_of (get_or t (2 * i) 0)) (value-small (get_or t (2 * i + 1) 0))) (digit-back (get_or t (2 * i + 1) 0) (digit_at_lem (2 * i + 1) (omega arith)))

-- a line prints its bytes: n of them from i on, and all
module _ (k : ℕ) (t : List ℕ) (h : is_line k t ≡ true) where
  line-from : (n i : ℕ) → i + n ≡ k → hex_line (map (line_byte t) (up_from i n)) ≡ take (2 * n) (drop (2 * i) t) ++ (10 ∷ [])
  unfolding hex_line up_from
  line-from zero i e = refl
  line-from (suc n) i e =
      let l : i < k = omega arith in
      let m : 2 * i + 1 + 1 ≡ 2 * suc i = omega arith in
      let a : drop (2 * i) t ≡ get_or t (2 * i) 0 ∷ get_or t (2 * i + 1) 0 ∷ drop (2 * suc i) t
      = drop-turn t (2 * i) (omega (arith, line-long k t h))
      ∙ ap (λ s. get_or t (2 * i) 0 ∷ s) (drop-turn t (2 * i + 1) (omega (arith, line-long k t h)) ∙ ap (λ j. get_or t (2 * i + 1) 0 ∷ drop j t) m) in
      let b : 2 * suc n ≡ suc (suc (2 * n)) = omega arith in
      rw (high_digit k t h i l, low_digit k t h i l, a, b, line-from n (suc i) (omega arith))

  pub line-back : hex_line (line_bytes k t) ≡ take (2 * k + 1) t
  unfolding line_bytes table
  line-back =
      line-from k 0 (omega arith) ∙ ap (λ b. take (2 * k) t ++ (b ∷ [])) (sym (line-feed k t h))
      ∙ sym (take-suc t (2 * k) 0 (omega (arith, line-long k t h))) ∙ rw add-one

-- the lines print the front of the text
within-back : (n k : ℕ) (t : List ℕ) → flat_map hex_line (lines_within n k t) ++ drop ((2 * k + 1) * length (lines_within n k t)) t ≡ t
unfolding lines_within flat_map
within-back zero k t = rw mul-zero
within-back (suc n) k t = cases (decided (is_line k t))
    (λ e. let m = (2 * k + 1) * length (lines_within n k (drop (2 * k + 1) t)) in
    rw (e, line-back k t e, append_assoc, mul-suc, add_comm m (2 * k + 1), ← drop-drop m (2 * k + 1) t, within-back n k (drop (2 * k + 1) t))
    (take-append-drop (2 * k + 1) t))
    (λ e. rw (e, mul-zero))

pub lines-back : (k : ℕ) (t : List ℕ) → flat_map hex_line (lines k t) ++ drop ((2 * k + 1) * length (lines k t)) t ≡ t
unfolding lines
lines-back k t = within-back (length t) k t

-- the lines have their bytes
table-small : (t : List ℕ) (i n : ℕ) → all (λ b. ltb b 256) (map (line_byte t) (up_from i n)) ≡ true
unfolding all up_from line_byte
table-small t i zero = refl
table-small t i (suc n) =
    and-join (ltb (line_byte t i) 256) (all (λ b. ltb b 256) (map (line_byte t) (up_from (suc i) n)))
    (lt-ltb (line_byte t i) 256 (omega (arith, value-small (get_or t (2 * i) 0), value-small (get_or t (2 * i + 1) 0)))) (table-small t (suc i) n)

line-bytes : (k : ℕ) (t : List ℕ) → is_bytes k (line_bytes k t) ≡ true
unfolding is_bytes line_bytes table
line-bytes k t = rw (eq-eqb (length (line_bytes k t)) k (line-length k t)) (table-small t 0 k)

within-lines : (n k : ℕ) (t : List ℕ) → are_lines k (lines_within n k t) ≡ true
unfolding lines_within are_lines all
within-lines zero k t = refl
within-lines (suc n) k t = cases (decided (is_line k t))
    (λ e. rw (e, line-bytes k t) (within-lines n k (drop (2 * k + 1) t)))
    (λ e. rw e)

pub lines_are : (k : ℕ) (t : List ℕ) → are_lines k (lines k t) ≡ true
unfolding lines
lines_are k t = within-lines (length t) k t

bar-is : (c : ℕ) (t : List ℕ) → is_bar c t ≡ true → t ≡ c ∷ c ∷ 10 ∷ drop 3 t
unfolding is_bar
bar-is c t h =
    let l = bar-long c t h in
    let a = and_left (eqb (get_or t 0 0) c && eqb (get_or t 1 0) c) (eqb (get_or t 2 0) 10) h in
    drop-turn t 0 (omega arith)
    ∙ ap (λ s. get_or t 0 0 ∷ s) (drop-turn t 1 (omega arith) ∙ ap (λ s. get_or t 1 0 ∷ s) (drop-turn t 2 (omega arith)))
    ∙ rw (
      eqb-true (get_or t 0 0) c (and_left (eqb (get_or t 0 0) c) (eqb (get_or t 1 0) c) a),
      eqb-true (get_or t 1 0) c (and_right (eqb (get_or t 0 0) c) (eqb (get_or t 1 0) c) a),
      eqb-true (get_or t 2 0) 10 (and_right (eqb (get_or t 0 0) c && eqb (get_or t 1 0) c) (eqb (get_or t 2 0) 10) h),
    )

-- the text behind the table
module _ (b : List ℕ) (h : body_formed b ≡ true) where
  steps_back : flat_map hex_line (step_lines b) ≡ step_text b
  unfolding step_lines
  steps_back =
      sym (append-nil (flat_map hex_line (lines 3 (step_text b))))
      ∙ ap (λ r. flat_map hex_line (lines 3 (step_text b)) ++ r) (sym (drop_of_length-le (step_text b) {i = 7 * length (lines 3 (step_text b))} (omega (arith, formed-steps b h))))
      ∙ lines-back 3 (step_text b)

  bar-back : 45 ∷ 45 ∷ 10 ∷ step_text b ≡ bar_text b
  unfolding bar_text step_text
  bar-back = ap (λ r. 45 ∷ 45 ∷ 10 ∷ r) (sym (drop-drop 3 (5 * length (plan_lines b)) b)) ∙ sym (bar-is 45 (bar_text b) (formed-bar b h))

  body_back : body_of (plan_lines b) (step_lines b) ≡ b
  unfolding body_of bar_text plan_lines
  body_back = ap (λ r. flat_map hex_line (lines 2 b) ++ r) (rw steps_back bar-back) ∙ lines-back 2 b

-- the table and the text behind it
module _ (t : List ℕ) where
  head-back : head_of (table_in t) ++ body t ≡ t
  head-back = cases (decided (has_table t)) with-table without
    where
      with-table : has_table t ≡ true → head_of (table_in t) ++ body t ≡ t
      with-table h = unfold head_of table_in body in
          rw (h, table_at t h, append_assoc, ← drop-drop 3 (5 * length (lines 2 t)) t, ← bar-is 61 (drop (5 * length (lines 2 t)) t) (unfold has_table in h)) (lines-back 2 t)

      without : has_table t ≡ false → head_of (table_in t) ++ body t ≡ t
      without h = unfold head_of table_in in rw h (no-table-body t h)

  pub head-lines : is_head (table_in t) ≡ true
  unfolding is_head table_in
  head-lines = cases (decided (has_table t)) (λ h. rw h (lines_are 2 t)) (λ h. rw h)

  pub text-back : well_formed t ≡ true → text_of (table_in t) (plan_lines (body t)) (step_lines (body t)) ≡ t
  unfolding text_of
  text-back h = rw (body_back (body t) (formed-body t h)) head-back
