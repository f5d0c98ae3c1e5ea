-- Plans and the numbers that the check answers: plan P of document 01, its limits, and one plan a test. Assumes nothing.
use mathlib.Core.Path.{◌≡◌, refl}
use mathlib.Core.List.{List, [], ◌∷◌, ◌++◌, map}
use Prim.Native.Nat.{ℕ, zero, suc}
use Rattle.lists.specs.Seq.{keep, up_from, all_below}
use Rattle.plan.specs.Plan.{kind_of, size, kind_byte, kind, parent, children_below, children, child_count, depth_within, depth}
use Rattle.plan.specs.Check.{length_ok, kind_ok, parent_ok, under_block, fits, count_ok, depth_ok, at_all, check_number}
use Rattle.plan.specs.Made.{in_front}

pub record Case : Type 0 where
  pub plan : List ℕ
  pub number : ℕ

case : List ℕ → ℕ → Case
case p n = record { plan = p; number = n }

-- n nodes of a kind below u
nodes : ℕ → ℕ → ℕ → List ℕ
nodes zero k u = []
nodes (suc n) k u = k ∷ u ∷ nodes n k u

-- serials in a chain, from node v on, and a task at its end
chain : ℕ → ℕ → List ℕ
chain zero v = 1 ∷ v ∷ []
chain (suc n) v = 2 ∷ v ∷ chain n (suc v)

-- a root, five serials, 31 tasks for each of four and n for the fifth: 130 + n nodes
broad : ℕ → List ℕ
broad n = 3 ∷ 255 ∷ (nodes 5 2 0 ++ (nodes 31 1 1 ++ (nodes 31 1 2 ++ (nodes 31 1 3 ++ (nodes 31 1 4 ++ nodes n 1 5)))))

pub cases : List Case
cases =
    case (2 ∷ 255 ∷ 1 ∷ 0 ∷ 5 ∷ 0 ∷ 1 ∷ 2 ∷ 1 ∷ 2 ∷ 1 ∷ 0 ∷ []) 0
    ∷ case (1 ∷ 255 ∷ []) 0
    ∷ case (broad 30) 0
    ∷ case (broad 31) 1
    ∷ case [] 1
    ∷ case (1 ∷ 255 ∷ 1 ∷ []) 1
    ∷ case (2 ∷ 7 ∷ 9 ∷ 0 ∷ []) 2
    ∷ case (0 ∷ 255 ∷ []) 2
    ∷ case (1 ∷ 0 ∷ []) 3
    ∷ case (2 ∷ 255 ∷ 1 ∷ 1 ∷ []) 3
    ∷ case (2 ∷ 255 ∷ 1 ∷ 0 ∷ 1 ∷ 1 ∷ []) 4
    ∷ case (2 ∷ 255 ∷ []) 5
    ∷ case (2 ∷ 255 ∷ nodes 32 1 0) 0
    ∷ case (2 ∷ 255 ∷ nodes 33 1 0) 5
    ∷ case (8 ∷ 255 ∷ []) 5
    ∷ case (8 ∷ 255 ∷ nodes 32 1 0) 0
    ∷ case (8 ∷ 255 ∷ nodes 33 1 0) 5
    ∷ case (7 ∷ 255 ∷ nodes 1 1 0) 5
    ∷ case (7 ∷ 255 ∷ nodes 2 1 0) 0
    ∷ case (7 ∷ 255 ∷ nodes 3 1 0) 5
    ∷ case (2 ∷ 255 ∷ chain 30 0) 0
    ∷ case (2 ∷ 255 ∷ chain 31 0) 6
    ∷ []

pub all_right : map (λ k. check_number k.plan) cases ≡ map (λ k. k.number) cases
unfolding check_number length_ok at_all kind_ok parent_ok under_block fits count_ok depth_ok kind_of size kind_byte kind parent children_below children child_count depth_within depth keep up_from all_below cases case broad nodes chain
all_right = refl

-- a plan in front of lent bytes: those behind it stay
pub all-in-front :
    in_front (1 ∷ 255 ∷ []) (7 ∷ 8 ∷ 9 ∷ 10 ∷ []) ∷ in_front (2 ∷ 255 ∷ 1 ∷ 0 ∷ []) (7 ∷ 8 ∷ 9 ∷ 10 ∷ []) ∷ []
    ≡ (1 ∷ 255 ∷ 9 ∷ 10 ∷ []) ∷ (2 ∷ 255 ∷ 1 ∷ 0 ∷ []) ∷ []
unfolding in_front
all-in-front = refl
