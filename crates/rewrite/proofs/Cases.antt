-- A plan of every kind before 08, rewritten; one that has 08 already; parents that are 3; refusals. Assumes nothing.
use mathlib.Core.Path.{◌≡◌, refl}
use mathlib.Core.List.{List, [], ◌∷◌, map}
use Prim.Native.Nat.{ℕ}
use Rattle.lists.specs.Seq.{keep, up_from, all_below, table}
use Rattle.plan.specs.Plan.{kind_of, size, kind_byte, kind, parent, children_below, children, child_count, depth_within, depth}
use Rattle.plan.specs.Check.{length_ok, kind_ok, parent_ok, under_block, fits, count_ok, depth_ok, at_all, check_number, fit_number}
use Rattle.plan.specs.Replaced.{Replaced, replaced}
use Rattle.rewrite.specs.Rewrite.{rewritten_byte, rewritten, rewrite_number, rewrite_of}

pub record Case : Type 0 where
  pub plan : List ℕ
  pub lent : List ℕ
  pub result : Replaced

case : List ℕ → List ℕ → ℕ → List ℕ → Case
case p out n left = record { plan = p; lent = out; result = replaced n left }

pub cases : List Case
cases =
    -- a serial over an and with a task, and an and whose children name node 3
    case (2 ∷ 255 ∷ 3 ∷ 0 ∷ 1 ∷ 1 ∷ 3 ∷ 0 ∷ 1 ∷ 3 ∷ 1 ∷ 3 ∷ []) (9 ∷ 9 ∷ 9 ∷ 9 ∷ 9 ∷ 9 ∷ 9 ∷ 9 ∷ 9 ∷ 9 ∷ 9 ∷ 9 ∷ []) 0
    (2 ∷ 255 ∷ 8 ∷ 0 ∷ 1 ∷ 1 ∷ 8 ∷ 0 ∷ 1 ∷ 3 ∷ 1 ∷ 3 ∷ [])
    ∷ case (8 ∷ 255 ∷ 4 ∷ 0 ∷ 1 ∷ 1 ∷ []) (0 ∷ 0 ∷ 0 ∷ 0 ∷ 0 ∷ 0 ∷ []) 0 (8 ∷ 255 ∷ 4 ∷ 0 ∷ 1 ∷ 1 ∷ [])
    ∷ case (3 ∷ 255 ∷ 1 ∷ 0 ∷ []) (9 ∷ 9 ∷ 9 ∷ []) 7 (9 ∷ 9 ∷ 9 ∷ [])
    ∷ case (3 ∷ 255 ∷ 1 ∷ 0 ∷ []) [] 7 []
    ∷ case (3 ∷ 255 ∷ []) (9 ∷ []) 5 (9 ∷ [])
    ∷ case (9 ∷ 255 ∷ []) (9 ∷ 9 ∷ []) 2 (9 ∷ 9 ∷ [])
    ∷ []

pub all_right : map (λ k. rewrite_of k.plan k.lent) cases ≡ map (λ k. k.result) cases
unfolding rewrite_of rewrite_number fit_number rewritten rewritten_byte table check_number length_ok at_all kind_ok parent_ok under_block fits count_ok depth_ok kind_of size kind_byte kind parent children_below children child_count depth_within depth keep up_from all_below cases case
all_right = refl
