-- Calls of the pass, with their numbers and marks: one table and one theorem. Assumes nothing.
use mathlib.Core.Path.{◌≡◌, refl}
use mathlib.Core.List.{List, [], ◌∷◌, map}
use Prim.Native.Nat.{ℕ}
use lib.ListN.{length, replicate}
use Rattle.lists.specs.Seq.{keep, up_from, all_below}
use Rattle.plan.specs.Plan.{kind_number, is_kind, kind_of, size, kind_byte, kind, parent, children_below, children, child_count, depth_within, depth}
use Rattle.plan.specs.Check.{length_ok, kind_ok, parent_ok, under_block, fits, count_ok, depth_ok, at_all, check_number, fit_number}
use Rattle.pass.specs.Pass.{goes_by, goes, one_or_two, bad_answer, bad_pick, closes, good_mark, child_mark, skip, note, ending, end_of, nothing, unwalked, child_settled, meet_by, meet, walk, close, settle_if, settle_by, settle, PassResult, pass_result, number_of, root_mark, pass_of, pass, pass_number, pass_into}

-- the lent marks are nines, one an answer
pub record Case : Type 0 where
  pub plan : List ℕ
  pub answers : List ℕ
  pub result : PassResult

case : List ℕ → List ℕ → ℕ → List ℕ → Case
case p a n m = record { plan = p; answers = a; result = pass_result n m }

-- a serial of a task, an xor of two tasks, and a task
abbrev P : List ℕ
P = 2 ∷ 255 ∷ 1 ∷ 0 ∷ 5 ∷ 0 ∷ 1 ∷ 2 ∷ 1 ∷ 2 ∷ 1 ∷ 0 ∷ []

-- a root of this kind over two tasks
abbrev pair : ℕ → List ℕ
pair k = k ∷ 255 ∷ 1 ∷ 0 ∷ 1 ∷ 0 ∷ []

-- a root of this kind over an xor, with one task, and a task
abbrev mixed : ℕ → List ℕ
mixed k = k ∷ 255 ∷ 5 ∷ 0 ∷ 1 ∷ 0 ∷ 1 ∷ 1 ∷ []

pub cases : List Case
cases =
    -- pick 0 while a child offers
    case P (0 ∷ 1 ∷ 0 ∷ 1 ∷ 1 ∷ 1 ∷ []) 14 (9 ∷ 9 ∷ 9 ∷ 9 ∷ 9 ∷ 9 ∷ [])
    -- answers at nodes that are not reached, and at other blocks, are free
    ∷ case P (7 ∷ 2 ∷ 9 ∷ 9 ∷ 9 ∷ 9 ∷ []) 0 (4 ∷ 4 ∷ 0 ∷ 0 ∷ 0 ∷ 0 ∷ [])
    ∷ case (pair 6) (7 ∷ 1 ∷ 9 ∷ []) 0 (3 ∷ 3 ∷ 0 ∷ [])
    ∷ case (pair 7) (2 ∷ 9 ∷ 1 ∷ []) 0 (3 ∷ 0 ∷ 3 ∷ [])
    -- the first fault met wins: the xor's 14 before its sibling's 13; a child's 13 before the xor's 14; a conditional's 13 before its branch's 14
    ∷ case (mixed 3) (0 ∷ 9 ∷ 0 ∷ 1 ∷ []) 14 (9 ∷ 9 ∷ 9 ∷ 9 ∷ [])
    ∷ case (mixed 3) (0 ∷ 9 ∷ 1 ∷ 0 ∷ []) 13 (9 ∷ 9 ∷ 9 ∷ 9 ∷ [])
    ∷ case (mixed 7) (3 ∷ 9 ∷ 1 ∷ 1 ∷ []) 13 (9 ∷ 9 ∷ 9 ∷ 9 ∷ [])
    ∷ case (mixed 7) (1 ∷ 9 ∷ 1 ∷ 1 ∷ []) 14 (9 ∷ 9 ∷ 9 ∷ 9 ∷ [])
    -- an xor: the picked child, the one turned down, the one that fails; none offers
    ∷ case (pair 5) (2 ∷ 1 ∷ 1 ∷ []) 0 (3 ∷ 5 ∷ 3 ∷ [])
    ∷ case (pair 5) (2 ∷ 2 ∷ 1 ∷ []) 0 (3 ∷ 4 ∷ 3 ∷ [])
    ∷ case (pair 5) (1 ∷ 2 ∷ 1 ∷ []) 14 (9 ∷ 9 ∷ 9 ∷ [])
    ∷ case (pair 5) (0 ∷ 2 ∷ 2 ∷ []) 0 (4 ∷ 4 ∷ 4 ∷ [])
    ∷ case (pair 5) (1 ∷ 2 ∷ 2 ∷ []) 14 (9 ∷ 9 ∷ 9 ∷ [])
    -- an and settles every child, be it waiting or not; an or works by one
    ∷ case (pair 3) (0 ∷ 2 ∷ 1 ∷ []) 0 (4 ∷ 4 ∷ 3 ∷ [])
    ∷ case (pair 8) (0 ∷ 2 ∷ 1 ∷ []) 0 (4 ∷ 4 ∷ 3 ∷ [])
    ∷ case (pair 4) (0 ∷ 2 ∷ 1 ∷ []) 0 (3 ∷ 4 ∷ 3 ∷ [])
    -- a plan that is refused, and lengths
    ∷ case (pair 9) (0 ∷ 1 ∷ 1 ∷ []) 2 (9 ∷ 9 ∷ 9 ∷ [])
    ∷ case (pair 3) (0 ∷ 1 ∷ []) 7 (9 ∷ 9 ∷ [])
    ∷ []

pub all_right : map (λ k. pass_into k.plan k.answers (replicate (length k.answers) 9)) cases ≡ map (λ k. k.result) cases
unfolding pass_into pass_number fit_number pass pass_of number_of root_mark settle settle_by settle_if close walk meet meet_by child_settled unwalked nothing end_of ending note skip child_mark good_mark closes bad_pick bad_answer one_or_two goes goes_by check_number length_ok at_all kind_ok parent_ok under_block fits count_ok depth_ok kind_number is_kind kind_of size kind_byte kind parent children_below children child_count depth_within depth keep up_from all_below cases case
all_right = refl
