-- Depth forms (rules R6 to R10), worked out by hand from the rules: plans there and back, the number of every kind of form, and calls. Assumes
-- nothing.
use mathlib.Core.Path.{◌≡◌, refl}
use mathlib.Core.Bool.{cond}
use mathlib.Core.List.{List, [], ◌∷◌, ◌++◌, map}
use Prim.Native.Nat.{ℕ, zero, suc}
use lib.Dec.{eqb}
use Rattle.lists.specs.Seq.{keep, up_from, all_below}
use Rattle.plan.specs.Plan.{kind_of, size, kind_byte, kind, parent, children_below, children, child_count, depth_within, depth}
use Rattle.plan.specs.Check.{length_ok, kind_ok, parent_ok, under_block, fits, count_ok, depth_ok, at_all, check_number}
use Rattle.plan.specs.Replaced.{Replaced, replaced}
use Rattle.trees.specs.Numbering.{above_within, is_above, follows, in_preorder}
use Rattle.depth_form.specs.Form.{pairs, depth_form, depth_at, last_at, line_parent, form_plan, level_ok, form_number}
use Rattle.depth_form.specs.Calls.{to_depths_number, to_depths_of, from_depths_number, from_depths_of}

-- serial: task, xor of two tasks, task
abbrev P : List ℕ
P = 2 ∷ 255 ∷ 1 ∷ 0 ∷ 5 ∷ 0 ∷ 1 ∷ 2 ∷ 1 ∷ 2 ∷ 1 ∷ 0 ∷ []

abbrev deep_p : List ℕ
deep_p = 2 ∷ 1 ∷ 1 ∷ 2 ∷ 5 ∷ 2 ∷ 1 ∷ 3 ∷ 1 ∷ 3 ∷ 1 ∷ 2 ∷ []

-- a plan in the fixed numbering, and its depth form
record Pair : Type 0 where
  plan : List ℕ
  form : List ℕ

pair : List ℕ → List ℕ → Pair
pair p d = record { plan = p; form = d }

pairings : List Pair
pairings =
    pair (1 ∷ 255 ∷ []) (1 ∷ 1 ∷ [])
    ∷ pair P deep_p
    -- two tasks below an and, then one below an or
    ∷ pair (2 ∷ 255 ∷ 3 ∷ 0 ∷ 1 ∷ 1 ∷ 1 ∷ 1 ∷ 4 ∷ 0 ∷ 1 ∷ 4 ∷ []) (2 ∷ 1 ∷ 3 ∷ 2 ∷ 1 ∷ 3 ∷ 1 ∷ 3 ∷ 4 ∷ 2 ∷ 1 ∷ 3 ∷ [])
    -- up by two levels behind node 3
    ∷ pair (2 ∷ 255 ∷ 2 ∷ 0 ∷ 2 ∷ 1 ∷ 1 ∷ 2 ∷ 1 ∷ 0 ∷ []) (2 ∷ 1 ∷ 2 ∷ 2 ∷ 2 ∷ 3 ∷ 1 ∷ 4 ∷ 1 ∷ 2 ∷ [])
    -- the second or's task is not the first one's
    ∷ pair (8 ∷ 255 ∷ 4 ∷ 0 ∷ 1 ∷ 1 ∷ 4 ∷ 0 ∷ 1 ∷ 3 ∷ []) (8 ∷ 1 ∷ 4 ∷ 2 ∷ 1 ∷ 3 ∷ 4 ∷ 2 ∷ 1 ∷ 3 ∷ [])
    ∷ []

there-right : map (λ k. pair k.plan (depth_form k.plan)) pairings ≡ pairings
unfolding pair pairings depth_form pairs size kind_byte parent depth_within depth
there-right = refl

back-right : map (λ k. pair (form_plan k.form) k.form) pairings ≡ pairings
unfolding pair pairings form_plan line_parent last_at depth_at pairs size kind_byte
back-right = refl

-- n lines of a kind at a depth
lines : ℕ → ℕ → ℕ → List ℕ
lines zero k e = []
lines (suc n) k e = k ∷ e ∷ lines n k e

-- serials, each one deeper, n of them from depth e on
stairs : ℕ → ℕ → List ℕ
stairs zero e = []
stairs (suc n) e = 2 ∷ e ∷ stairs n (suc e)

-- a form and its number
record Told : Type 0 where
  form : List ℕ
  number : ℕ

told : List ℕ → ℕ → Told
told d n = record { form = d; number = n }

forms : List Told
forms =
    told deep_p 0
    -- 1: no line, half a line, 161 lines; 160 lines pass
    ∷ told [] 1
    ∷ told (2 ∷ 1 ∷ 1 ∷ []) 1
    ∷ told (2 ∷ 1 ∷ (lines 31 2 2 ++ lines 129 1 2)) 1
    ∷ told (2 ∷ 1 ∷ ((2 ∷ 2 ∷ lines 31 1 3) ++ ((2 ∷ 2 ∷ lines 31 1 3) ++ ((2 ∷ 2 ∷ lines 31 1 3) ++ ((2 ∷ 2 ∷ lines 31 1 3) ++ (2 ∷ 2 ∷ lines 30 1 3)))))) 0
    -- 2, also with depths that cannot be
    ∷ told (0 ∷ 1 ∷ []) 2
    ∷ told (2 ∷ 1 ∷ 9 ∷ 2 ∷ []) 2
    ∷ told (2 ∷ 7 ∷ 9 ∷ 1 ∷ []) 2
    -- 17: the first depth
    ∷ told (1 ∷ 0 ∷ []) 17
    ∷ told (1 ∷ 2 ∷ []) 17
    ∷ told (1 ∷ 255 ∷ []) 17
    -- 17: a later depth below 2
    ∷ told (2 ∷ 1 ∷ 1 ∷ 1 ∷ []) 17
    ∷ told (2 ∷ 1 ∷ 1 ∷ 0 ∷ []) 17
    ∷ told (2 ∷ 1 ∷ 1 ∷ 2 ∷ 1 ∷ 1 ∷ []) 17
    -- 17: more than one above the line before; the levels of any line before do not count
    ∷ told (2 ∷ 1 ∷ 1 ∷ 3 ∷ []) 17
    ∷ told (2 ∷ 1 ∷ 2 ∷ 2 ∷ 1 ∷ 4 ∷ []) 17
    ∷ told (2 ∷ 1 ∷ 2 ∷ 2 ∷ 1 ∷ 3 ∷ 1 ∷ 2 ∷ 1 ∷ 4 ∷ []) 17
    ∷ told (2 ∷ 1 ∷ 1 ∷ 255 ∷ []) 17
    -- 17 before 4, 5 and 6
    ∷ told (1 ∷ 1 ∷ 1 ∷ 2 ∷ 1 ∷ 1 ∷ []) 17
    ∷ told (7 ∷ 1 ∷ 1 ∷ 2 ∷ 1 ∷ 4 ∷ []) 17
    ∷ told (stairs 33 1 ++ (1 ∷ 1 ∷ [])) 17
    -- 4: a task with a child, before 5
    ∷ told (1 ∷ 1 ∷ 1 ∷ 2 ∷ []) 4
    ∷ told (2 ∷ 1 ∷ 1 ∷ 2 ∷ 1 ∷ 3 ∷ []) 4
    ∷ told (1 ∷ 1 ∷ 2 ∷ 2 ∷ []) 4
    -- 5: too few children or too many, before 6
    ∷ told (2 ∷ 1 ∷ []) 5
    ∷ told (2 ∷ 1 ∷ 3 ∷ 2 ∷ 1 ∷ 2 ∷ []) 5
    ∷ told (7 ∷ 1 ∷ 1 ∷ 2 ∷ []) 5
    ∷ told (7 ∷ 1 ∷ 1 ∷ 2 ∷ 1 ∷ 2 ∷ []) 0
    ∷ told (7 ∷ 1 ∷ lines 3 1 2) 5
    ∷ told (2 ∷ 1 ∷ lines 32 1 2) 0
    ∷ told (2 ∷ 1 ∷ lines 33 1 2) 5
    ∷ told (stairs 33 1) 5
    -- 6: depth 33
    ∷ told (stairs 31 1 ++ (1 ∷ 32 ∷ [])) 0
    ∷ told (stairs 32 1 ++ (1 ∷ 33 ∷ [])) 6
    ∷ []

forms-right : map (λ k. form_number k.form) forms ≡ map (λ k. k.number) forms
unfolding told forms lines stairs form_number level_ok form_plan line_parent last_at depth_at pairs length_ok at_all kind_ok under_block fits count_ok depth_ok kind_of size kind_byte kind parent children_below children child_count depth_within depth keep up_from all_below
forms-right = refl

-- a call with bytes lent: its number, and what is written where it passes
record Called : Type 0 where
  given : List ℕ
  lent : List ℕ
  number : ℕ
  new : List ℕ

refused : List ℕ → List ℕ → ℕ → Called
refused p out n = record { given = p; lent = out; number = n; new = [] }

passes : List ℕ → List ℕ → List ℕ → Called
passes p out q = record { given = p; lent = out; number = 0; new = q }

abbrev left : Called → Replaced
left k = replaced k.number (cond (eqb k.number 0) k.new k.lent)

-- serial 0: xor 1 of tasks 2 and 4, task 3, which stands between them
abbrev other : List ℕ
other = 2 ∷ 255 ∷ 5 ∷ 0 ∷ 1 ∷ 1 ∷ 1 ∷ 0 ∷ 1 ∷ 1 ∷ []

there : List Called
there =
    passes P (lines 6 9 9) deep_p
    ∷ passes (1 ∷ 255 ∷ []) (9 ∷ 9 ∷ []) (1 ∷ 1 ∷ [])
    -- 7 for other lengths, and 18 before it
    ∷ refused P (lines 5 9 9) 7
    ∷ refused P (lines 7 9 9) 7
    ∷ refused other (lines 5 9 9) 18
    ∷ refused other (lines 4 9 9) 18
    -- 1 to 6 before both
    ∷ refused [] [] 1
    ∷ refused (9 ∷ 255 ∷ []) [] 2
    ∷ refused (1 ∷ 1 ∷ []) (9 ∷ 9 ∷ []) 3
    ∷ refused (2 ∷ 255 ∷ 1 ∷ 0 ∷ 1 ∷ 1 ∷ []) (lines 3 9 9) 4
    ∷ refused (2 ∷ 255 ∷ 3 ∷ 0 ∷ 3 ∷ 0 ∷ 1 ∷ 1 ∷ []) (lines 4 9 9) 5
    ∷ []

calls-there : map (λ k. to_depths_of k.given k.lent) there ≡ map left there
unfolding refused passes there lines to_depths_of to_depths_number in_preorder follows is_above above_within depth_form pairs check_number length_ok at_all kind_ok parent_ok under_block fits count_ok depth_ok kind_of size kind_byte kind parent children_below children child_count depth_within depth keep up_from all_below
calls-there = refl

back : List Called
back =
    passes deep_p (lines 6 9 9) P
    ∷ passes (1 ∷ 1 ∷ []) (9 ∷ 9 ∷ []) (1 ∷ 255 ∷ [])
    ∷ refused deep_p (lines 5 9 9) 7
    ∷ refused deep_p (lines 7 9 9) 7
    ∷ refused deep_p [] 7
    -- the form's number before 7
    ∷ refused [] (9 ∷ 9 ∷ []) 1
    ∷ refused (9 ∷ 1 ∷ []) [] 2
    ∷ refused (1 ∷ 2 ∷ []) [] 17
    ∷ refused (1 ∷ 1 ∷ 1 ∷ 2 ∷ []) [] 4
    ∷ refused (2 ∷ 1 ∷ []) [] 5
    ∷ refused (stairs 32 1 ++ (1 ∷ 33 ∷ [])) [] 6
    ∷ refused (1 ∷ 255 ∷ []) (9 ∷ 9 ∷ []) 17
    ∷ []

calls_back : map (λ k. from_depths_of k.given k.lent) back ≡ map left back
unfolding refused passes back lines stairs from_depths_of from_depths_number form_number level_ok form_plan line_parent last_at depth_at pairs length_ok at_all kind_ok under_block fits count_ok depth_ok kind_of size kind_byte kind parent children_below children child_count depth_within depth keep up_from all_below
calls_back = refl
