-- What a text tells and when it is well-formed (rules J1, J2 and J4), and the MAIN CLAIM. Definitions only.
use Rattle.std.specs.Prelude.{◌≡◌, Bool, true, cond, ◌&&◌, ℕ, zero, suc, ◌+◌, ◌*◌, ◌≤◌, eqb, leb, ltb, length, get_or, drop}
use mathlib.Core.List.{List, [], ◌∷◌, ◌++◌, flat_map, flatten}
use Rattle.std.proofs.Math.Option.{Option, none, some}
use Rattle.lists.specs.Seq.{all}
use Rattle.text.specs.Hex.{is_line, line_bytes, hex_line}

-- J1: the lines of k bytes with which t begins, as bytes, n at most; and all of them
unfoldable pub lines_within : ℕ → ℕ → List ℕ → List (List ℕ)
lines_within zero k t = []
lines_within (suc n) k t = cond (is_line k t) (line_bytes k t ∷ lines_within n k (drop (2 * k + 1) t)) []

unfoldable pub lines : ℕ → List ℕ → List (List ℕ)
lines k t = lines_within (length t) k t

-- J1, J4: t begins with a line of two signs c: `==`, where c is 61, or `--`, where it is 45
unfoldable pub is_bar : ℕ → List ℕ → Bool
is_bar c t = eqb (get_or t 0 0) c && eqb (get_or t 1 0) c && eqb (get_or t 2 0) 10

-- J4: the lines of two bytes with which a text begins are a table where the line `==` stands behind them
unfoldable pub has_table : List ℕ → Bool
has_table t = is_bar 61 (drop (5 * length (lines 2 t)) t)

unfoldable pub table_lines : List ℕ → List (List ℕ)
table_lines t = cond (has_table t) (lines 2 t) []

-- J4: where the text behind the table begins; without a table it is the whole text
unfoldable pub body_at : List ℕ → ℕ
body_at t = cond (has_table t) (5 * length (lines 2 t) + 3) 0

unfoldable pub body : List ℕ → List ℕ
body t = drop (body_at t) t

-- J1: of a text b behind the table: the plan's nodes, the line `--` behind them, and the steps behind that line
unfoldable pub plan_lines : List ℕ → List (List ℕ)
plan_lines b = lines 2 b

unfoldable pub bar_text : List ℕ → List ℕ
bar_text b = drop (5 * length (plan_lines b)) b

unfoldable pub step_text : List ℕ → List ℕ
step_text b = drop (5 * length (plan_lines b) + 3) b

unfoldable pub step_lines : List ℕ → List (List ℕ)
step_lines b = lines 3 (step_text b)

-- J2: one line `--` behind the plan's, and nothing but step lines behind it
unfoldable pub body_formed : List ℕ → Bool
body_formed b = is_bar 45 (bar_text b) && eqb (length (step_text b)) (7 * length (step_lines b))

-- J2: no longer than 32,768 bytes, and so behind the table
unfoldable pub well_formed : List ℕ → Bool
well_formed t = leb (length t) 32768 && body_formed (body t)

-- J1, J4: the bytes of the table, of the plan and of the steps
unfoldable pub table_bytes : List ℕ → List ℕ
table_bytes t = flatten (table_lines t)

unfoldable pub plan_bytes : List ℕ → List ℕ
plan_bytes t = flatten (plan_lines (body t))

unfoldable pub step_bytes : List ℕ → List ℕ
step_bytes t = flatten (step_lines (body t))

-- J1, J4, the other way round: the text of a table, if there is one, a plan and steps
unfoldable pub head_of : Option (List (List ℕ)) → List ℕ
head_of none = []
head_of (some hs) = flat_map hex_line hs ++ (61 ∷ 61 ∷ 10 ∷ [])

unfoldable pub body_of : List (List ℕ) → List (List ℕ) → List ℕ
body_of ps ss = flat_map hex_line ps ++ (45 ∷ 45 ∷ 10 ∷ flat_map hex_line ss)

unfoldable pub text_of : Option (List (List ℕ)) → List (List ℕ) → List (List ℕ) → List ℕ
text_of h ps ss = head_of h ++ body_of ps ss

unfoldable pub table_in : List ℕ → Option (List (List ℕ))
table_in t = cond (has_table t) (some (lines 2 t)) none

-- J1: lines of k bytes each
unfoldable pub is_bytes : ℕ → List ℕ → Bool
is_bytes k bs = eqb (length bs) k && all (λ b. ltb b 256) bs

unfoldable pub are_lines : ℕ → List (List ℕ) → Bool
are_lines k ls = all (is_bytes k) ls

unfoldable pub is_head : Option (List (List ℕ)) → Bool
is_head none = true
is_head (some hs) = are_lines 2 hs

-- MAIN CLAIM (J1, J2, J4). A text is well-formed if and only if it is the text of some table lines, or of none, of some plan lines and of some step lines,
-- and not too long; these lines are what is read.
pub record TextExact : Type 0 where
  pub written : (t : List ℕ) → well_formed t ≡ true →
      (is_head (table_in t) ≡ true) × (are_lines 2 (plan_lines (body t)) ≡ true) × (are_lines 3 (step_lines (body t)) ≡ true)
      × (text_of (table_in t) (plan_lines (body t)) (step_lines (body t)) ≡ t) × (length t ≤ 32768)
  pub read : (h : Option (List (List ℕ))) (ps ss : List (List ℕ)) → is_head h ≡ true → are_lines 2 ps ≡ true → are_lines 3 ss ≡ true → length (text_of h ps ss) ≤ 32768 →
      (well_formed (text_of h ps ss) ≡ true) × (table_in (text_of h ps ss) ≡ h) × (plan_lines (body (text_of h ps ss)) ≡ ps) × (step_lines (body (text_of h ps ss)) ≡ ss)
