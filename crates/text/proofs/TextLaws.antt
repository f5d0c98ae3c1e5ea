-- Laws of the lines with which a text begins. Assumes nothing.
use mathlib.Core.Path.{◌≡◌, refl, sym, ◌∙◌, ap}
use mathlib.Core.Bool.{true, false, ◌&&◌, and-true, and-false, and_assoc}
use mathlib.Core.List.{List, [], ◌∷◌}
use Prim.Native.Nat.{ℕ, zero, suc, ◌+◌, ◌-◌, ◌*◌, ◌≤◌, ◌<◌}
use native.Mathlib.Omega.{arith}
use borrow.Author.Tests.{eq-eqb, ne_eqb, eqb-true, eqb-false, leb-true, leb-false}
use lib.Dec.{eqb, leb}
use lib.ListN.{length, get_or, take, drop, length-drop, get_or-eq_default}
use lib.Seq.{take_all}
use Rattle.std.specs.List.{starts_with}
use Rattle.lists.proofs.Logic.{cases, decided, and_left, and_right}
use Rattle.text.specs.Hex.{is_line, line_bytes}
use Rattle.text.specs.Text.{lines_within, lines, is_bar, has_table, table_lines, body_at, body, bar_text, step_text, step_lines, body_formed, well_formed}
use Rattle.text.proofs.HexLaws.{line-long}

-- a text from a place on, as the code takes it
abbrev pub rest : List ℕ → ℕ → List ℕ
rest t at = take (length t - at) (drop at t)

pub rest-is : (t : List ℕ) (at : ℕ) → rest t at ≡ drop at t
rest-is t at = take_all (length t - at) (drop at t) (omega (arith, length-drop at t))

no_line : (k : ℕ) (t : List ℕ) → length t ≤ 0 → is_line k t ≡ false
no_line k t l = cases (decided (is_line k t)) (λ e. absurd (omega (arith, line-long k t e))) (λ e. e)

module _ (n k : ℕ) (t : List ℕ) where
  within_none : is_line k t ≡ false → lines_within (suc n) k t ≡ []
  unfolding lines_within
  within_none h = rw h

  within-some : is_line k t ≡ true → lines_within (suc n) k t ≡ line_bytes k t ∷ lines_within n k (drop (2 * k + 1) t)
  unfolding lines_within
  within-some h = rw h

-- a number of lines that is large enough makes no difference
within-enough : (n m k : ℕ) (t : List ℕ) → length t ≤ n → length t ≤ m → lines_within n k t ≡ lines_within m k t
unfolding lines_within
within-enough zero zero k t l r = refl
within-enough zero (suc m) k t l r = sym (within_none m k t (no_line k t l))
within-enough (suc n) zero k t l r = within_none n k t (no_line k t r)
within-enough (suc n) (suc m) k t l r = cases (decided (is_line k t))
    (λ e. within-some n k t e
    ∙ ap (λ ls. line_bytes k t ∷ ls) (within-enough n m k (drop (2 * k + 1) t) (shorter n l e) (shorter m r e))
    ∙ sym (within-some m k t e))
    (λ e. within_none n k t e ∙ sym (within_none m k t e))
  where
    shorter : (i : ℕ) → length t ≤ suc i → is_line k t ≡ true → length (drop (2 * k + 1) t) ≤ i
    shorter i h e = omega (arith, length-drop (2 * k + 1) t, line-long k t e)

module _ (k : ℕ) (t : List ℕ) where
  pub lines_none : is_line k t ≡ false → lines k t ≡ []
  unfolding lines
  lines_none h = within-enough (length t) (suc (length t)) k t (omega arith) (omega arith) ∙ within_none (length t) k t h

  pub lines-some : is_line k t ≡ true → lines k t ≡ line_bytes k t ∷ lines k (drop (2 * k + 1) t)
  unfolding lines
  lines-some h =
      within-enough (length t) (suc (length t)) k t (omega arith) (omega arith) ∙ within-some (length t) k t h
      ∙ ap (λ ls. line_bytes k t ∷ ls)
      (within-enough (length t) (length (drop (2 * k + 1) t)) k (drop (2 * k + 1) t) (omega (arith, length-drop (2 * k + 1) t)) (omega arith))

-- counting them: n lines stand before what is left of the text
pub record Counted (k : ℕ) (t left : List ℕ) (n : ℕ) : Type 0 where
  pub few : n + length left ≤ length t
  pub rest : length (lines k t) ≡ n + length (lines k left)

pub count_none : (k : ℕ) (t : List ℕ) → Counted k t t 0
count_none k t = record { few = omega arith; rest = omega arith }

module _ {k : ℕ} {t left : List ℕ} {n : ℕ} (h : Counted k t left n) where
  pub count-stop : is_line k left ≡ false → n ≡ length (lines k t)
  count-stop f = omega (arith, h.rest, ap length (lines_none k left f))

  pub count-more : is_line k left ≡ true → Counted k t (rest left (2 * k + 1)) (n + 1)
  count-more f =
      rw (rest-is left (2 * k + 1))
      record {
        few = omega (arith, h.few, line-long k left f, length-drop (2 * k + 1) left);
        rest = omega (arith, h.rest, ap length (lines-some k left f));
      }

-- a line less is shorter
pub rest-shorter : (k : ℕ) (t : List ℕ) → is_line k t ≡ true → length (rest t (2 * k + 1)) < length t
rest-shorter k t f = omega (arith, ap length (rest-is t (2 * k + 1)), length-drop (2 * k + 1) t, line-long k t f)

turned : (a b : ℕ) → eqb a b ≡ eqb b a
turned a b = cases (decided (eqb b a)) (λ e. rw (eqb-true b a e, eq-eqb a a refl)) (λ e. rw e (ne_eqb a b (λ f. eqb-false b a e (sym f))))

-- a line of two signs c, as the code tests it
pub bar-starts : (c : ℕ) (t : List ℕ) → starts_with eqb t (c ∷ c ∷ 10 ∷ []) ≡ is_bar c t
unfolding is_bar
bar-starts c [] = sym (and-false (eqb 0 c && eqb 0 c))
bar-starts c (a ∷ []) = and-false (eqb c a) ∙ sym (and-false (eqb a c && eqb 0 c))
bar-starts c (a ∷ b ∷ []) = ap (λ x. eqb c a && x) (and-false (eqb c b)) ∙ and-false (eqb c a) ∙ sym (and-false (eqb a c && eqb b c))
bar-starts c (a ∷ b ∷ d ∷ t) = rw (turned c a, turned c b, turned 10 d, and-true, and_assoc)

module _ (c : ℕ) (t : List ℕ) where
  pub bar-long : is_bar c t ≡ true → 3 ≤ length t
  unfolding is_bar
  bar-long h = cases (decided (leb 3 (length t)))
      (λ e. leb-true 3 (length t) e)
      (λ e. let l : length t ≤ 2 = omega (arith, leb-false 3 (length t) e) in
      let f = eqb-true (get_or t 2 0) 10 (and_right (eqb (get_or t 0 0) c && eqb (get_or t 1 0) c) (eqb (get_or t 2 0) 10) h) in
      absurd (omega (arith, f, get_or-eq_default t 0 l)))

-- the lines stand in the text
within-fit : (n k : ℕ) (t : List ℕ) → (2 * k + 1) * length (lines_within n k t) ≤ length t
unfolding lines_within
within-fit zero k t = omega arith
within-fit (suc n) k t = cases (decided (is_line k t))
    (λ e. rw e (omega (arith, within-fit n k (drop (2 * k + 1) t), line-long k t e, length-drop (2 * k + 1) t)))
    (λ e. rw e (omega arith))

pub lines_fit : (k : ℕ) (t : List ℕ) → (2 * k + 1) * length (lines k t) ≤ length t
unfolding lines
lines_fit k t = within-fit (length t) k t

-- with a table and without one
module _ (t : List ℕ) where
  module _ (h : has_table t ≡ true) where
    pub table_at : body_at t ≡ 5 * length (lines 2 t) + 3
    unfolding body_at
    table_at = rw h

    pub table-lines : table_lines t ≡ lines 2 t
    unfolding table_lines
    table-lines = rw h

    pub table-room : 5 * length (lines 2 t) + 3 ≤ length t
    unfolding has_table
    table-room = omega (arith, lines_fit 2 t, bar-long 61 (drop (5 * length (lines 2 t)) t) h, length-drop (5 * length (lines 2 t)) t)

  module _ (h : has_table t ≡ false) where
    pub no-table-at : body_at t ≡ 0
    unfolding body_at
    no-table-at = rw h

    pub no-table-lines : table_lines t ≡ []
    unfolding table_lines
    no-table-lines = rw h

    pub no-table-body : body t ≡ t
    unfolding body
    no-table-body = rw no-table-at

  pub body-room : body_at t ≤ length t
  body-room = cases (decided (has_table t)) (λ h. omega (arith, table_at h, table-room h)) (λ h. omega (arith, no-table-at h))

-- what a well-formed text has
module _ (b : List ℕ) (h : body_formed b ≡ true) where
  pub formed-bar : is_bar 45 (bar_text b) ≡ true
  unfolding body_formed
  formed-bar = and_left (is_bar 45 (bar_text b)) (eqb (length (step_text b)) (7 * length (step_lines b))) h

  pub formed-steps : length (step_text b) ≡ 7 * length (step_lines b)
  unfolding body_formed
  formed-steps = eqb-true _ _ (and_right (is_bar 45 (bar_text b)) (eqb (length (step_text b)) (7 * length (step_lines b))) h)

module _ (t : List ℕ) (h : well_formed t ≡ true) where
  pub formed-short : length t ≤ 32768
  unfolding well_formed
  formed-short = leb-true (length t) 32768 (and_left (leb (length t) 32768) (body_formed (body t)) h)

  pub formed-body : body_formed (body t) ≡ true
  unfolding well_formed
  formed-body = and_right (leb (length t) 32768) (body_formed (body t)) h
