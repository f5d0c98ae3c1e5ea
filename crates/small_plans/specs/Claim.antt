-- THE CLAIMS of rules T. Definitions only.
use Rattle.std.specs.Prelude.{◌≡◌, List, [], ◌∷◌, ◌++◌, ◌⊎◌, ◌↔◌, ℕ, ◌≤◌, ◌<◌, length, drop}
use Rattle.std.proofs.Math.Option.{none, some}
use Rattle.plan.specs.Plan.{size}
use Rattle.plan.specs.Check.{Accepted, check_number}
use Rattle.plan.specs.Made.{made}
use Rattle.small_plans.specs.Order.{Before, next_plan}
use Rattle.small_plans.specs.Call.{next_of}

-- T1: a small plan
pub record Small (p : List ℕ) : Type 0 where
  pub accepted : Accepted p
  pub few : size p ≤ 5

-- T3: q is the next plan of p: small, behind p, and before every other small plan behind p
pub record IsNext (p q : List ℕ) : Type 0 where
  pub small : Small q
  pub after : Before p q
  pub least : (r : List ℕ) → Small r → Before p r → (q ≡ r) ⊎ Before q r

-- T3: the definition finds just that plan, and none just where there is none
pub record Next (p : List ℕ) : Type 0 where
  pub found : (q : List ℕ) → (next_plan p ≡ some q) ↔ IsNext p q
  pub last : (next_plan p ≡ none) ↔ ((r : List ℕ) → Small r → Before p r → ⊥)

-- MAIN CLAIM (T3)
abbrev pub NextRight : Type 0
NextRight = (p : List ℕ) → Next p

-- T4: the single task
abbrev pub single : List ℕ
single = 1 ∷ 255 ∷ []

-- CLAIM (T4). It is the first.
abbrev pub SingleFirst : Type 0
SingleFirst = Small single × ((p : List ℕ) → Small p → (single ≡ p) ⊎ Before single p)

-- T4: who takes the next plan again and again, from p on, comes to q
pub data Reaches : List ℕ → List ℕ → Type 0 where
  there : {p q : List ℕ} → p ≡ q → Reaches p q
  on : {p q r : List ℕ} → next_plan p ≡ some q → Reaches q r → Reaches p r

-- CLAIM (T4). From the single task on every small plan comes up, and nothing else.
abbrev pub AllComeUp : Type 0
AllComeUp = (q : List ℕ) → Reaches single q ↔ Small q

-- CLAIM (T4). Each comes up once: what comes up behind p comes after it.
abbrev pub NoneTwice : Type 0
NoneTwice = (p q r : List ℕ) → next_plan p ≡ some q → Reaches q r → Before p r

-- T5: the last small plan
abbrev pub last : List ℕ
last = 8 ∷ 255 ∷ 8 ∷ 0 ∷ 8 ∷ 1 ∷ 8 ∷ 2 ∷ 1 ∷ 3 ∷ []

-- CLAIM (T5). It is the only one without a next.
abbrev pub LastOnly : Type 0
LastOnly = (p : List ℕ) → Small p → (next_plan p ≡ none) ↔ (p ≡ last)

-- T6, T7: with the bytes out lent, the next plan of p is left in front of them, and n is its number of nodes
pub record AsNext (p out : List ℕ) (n : ℕ) (out' : List ℕ) : Type 0 where
  pub small : Small p
  pub long : length out ≡ 10
  pub plan : List ℕ
  pub right : IsNext p plan
  pub nodes : n ≡ size plan
  pub left : out' ≡ plan ++ drop (length plan) out

-- CLAIM (T6, T7). When a call passes, and what it then answers and leaves.
abbrev pub NextCall : Type 0
NextCall = (p out : List ℕ) (n : ℕ) (out' : List ℕ) → (next_of p out ≡ made 0 n out') ↔ AsNext p out n out'

-- T6, H0, H28: every number, where none before it fits; the lent bytes are left
pub record Numbers (p out : List ℕ) : Type 0 where
  pub by-plan : (check_number p ≡ 0 → ⊥) → next_of p out ≡ made (check_number p) 0 out
  pub by_last : p ≡ last → next_of p out ≡ made 26 0 out
  pub by-nodes : Accepted p → 5 < size p → next_of p out ≡ made 27 0 out
  pub by-lent : Small p → (p ≡ last → ⊥) → (length out ≡ 10 → ⊥) → next_of p out ≡ made 7 0 out

-- CLAIM (T6)
abbrev pub NextNumbers : Type 0
NextNumbers = (p out : List ℕ) → Numbers p out
