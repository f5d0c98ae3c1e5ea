-- Rules J2 and J4, case by case: which texts are well-formed. Assumes nothing.
use mathlib.Core.Path.{◌≡◌, refl}
use mathlib.Core.Bool.{Bool, true, false}
use mathlib.Core.List.{List, [], ◌∷◌, ◌++◌, map}
use Prim.Native.Nat.{ℕ}
use Rattle.lists.specs.Seq.{all_below}
use Rattle.text.specs.Hex.{is_digit, digit_at, is_line}
use Rattle.text.specs.Text.{lines_within, lines, is_bar, has_table, body_at, body, plan_lines, bar_text, step_text, step_lines, body_formed, well_formed}

pub record Case : Type 0 where
  pub text : List ℕ
  pub formed : Bool

abbrev pub case : List ℕ → Bool → Case
case t f = record { text = t; formed = f }

-- the lines `01ff`, `--`, `==` and `0100ff`
abbrev pub node : List ℕ
node = 48 ∷ 49 ∷ 102 ∷ 102 ∷ 10 ∷ []

abbrev pub bar : List ℕ
bar = 45 ∷ 45 ∷ 10 ∷ []

abbrev pub close : List ℕ
close = 61 ∷ 61 ∷ 10 ∷ []

abbrev pub step : List ℕ
step = 48 ∷ 49 ∷ 48 ∷ 48 ∷ 102 ∷ 102 ∷ 10 ∷ []

abbrev pub cases : List Case
cases =
    case (node ++ (bar ++ step)) true
    ∷ case (node ++ bar) true  -- no step
    ∷ case bar true  -- no plan line
    ∷ case [] false  -- empty
    ∷ case node false  -- no `--`
    ∷ case (node ++ (bar ++ bar)) false  -- two
    ∷ case (node ++ (bar ++ (step ++ bar))) false
    ∷ case (node ++ (10 ∷ bar)) false  -- an empty line
    ∷ case (node ++ (bar ++ (10 ∷ []))) false
    ∷ case (48 ∷ 49 ∷ 102 ∷ 102 ∷ 13 ∷ 10 ∷ bar) false  -- a carriage return
    ∷ case (node ++ (45 ∷ 45 ∷ 13 ∷ 10 ∷ [])) false
    ∷ case (48 ∷ 49 ∷ 70 ∷ 70 ∷ 10 ∷ bar) false  -- uppercase
    ∷ case (48 ∷ 49 ∷ 102 ∷ 102 ∷ 32 ∷ 10 ∷ bar) false  -- a blank
    ∷ case (48 ∷ 49 ∷ 103 ∷ 102 ∷ 10 ∷ bar) false  -- no digit
    ∷ case (step ++ bar) false  -- lines of another length
    ∷ case (node ++ (bar ++ node)) false
    ∷ case (node ++ (45 ∷ 45 ∷ 45 ∷ 10 ∷ [])) false
    ∷ case (node ++ (bar ++ (48 ∷ 49 ∷ 48 ∷ 48 ∷ 102 ∷ 102 ∷ []))) false  -- no last line feed
    ∷ case (node ++ (45 ∷ 45 ∷ [])) false
    ∷ case (node ++ (close ++ (node ++ (bar ++ step)))) true  -- a table
    ∷ case (close ++ (node ++ bar)) true  -- an empty one
    ∷ case (close ++ (close ++ (node ++ bar))) false  -- two
    ∷ case (node ++ (close ++ (node ++ (close ++ bar)))) false
    ∷ case (node ++ (bar ++ close)) false  -- behind the line `--`
    ∷ case (node ++ (close ++ node)) false  -- and no such line
    ∷ case (step ++ (close ++ (node ++ bar))) false  -- a line of another length
    ∷ case (10 ∷ (close ++ (node ++ bar))) false
    ∷ case (node ++ (61 ∷ 10 ∷ (node ++ bar))) false
    ∷ []

pub all_right : map (λ (c : Case). well_formed c.text) cases ≡ map (λ (c : Case). c.formed) cases
unfolding well_formed body_formed body body_at has_table plan_lines bar_text step_text step_lines is_bar lines lines_within is_line all_below digit_at is_digit
all_right = refl
