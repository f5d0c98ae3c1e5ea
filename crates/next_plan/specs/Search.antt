-- What the search knows of the plans that it skips (rules A5, T3). Definitions only.
use Rattle.std.specs.Prelude.{◌≡◌, cond, List, ◌⊎◌, ℕ, ◌≤◌, ◌<◌, Option, Some, None, eqb, length, get_or, take}
use Rattle.std.proofs.Math.Option.{none, some}
use Rattle.lists.specs.Seq.{sum_below}
use Rattle.plan.specs.Plan.{kind_byte}
use Rattle.plan.specs.Check.{Accepted}
use Rattle.small_plans.specs.Order.{Before, next_plan}
use Rattle.small_plans.specs.Claim.{Small}

-- A5: how many children a node of this kind byte needs: a task none, a conditional two, any other block one
unfoldable pub children_needed : ℕ → ℕ
children_needed k = cond (eqb k 1) 0 (cond (eqb k 7) 2 1)

-- A5: how many the first n nodes need
unfoldable pub needed_below : List ℕ → ℕ → ℕ
needed_below q n = sum_below (λ v. children_needed (kind_byte q v)) n

-- T3: no plan of q's length has the first k bytes of q
abbrev pub Dead : List ℕ → ℕ → Type 0
Dead q k = (r : List ℕ) → Accepted r → length r ≡ length q → ((i : ℕ) → i < k → get_or q i 0 ≡ get_or r i 0) → ⊥

-- T3: of the small plans behind p none comes before q
abbrev pub Gap : List ℕ → List ℕ → Type 0
Gap p q = (r : List ℕ) → Small r → Before p r → (q ≡ r) ⊎ Before q r

-- T3: the first n bytes of q are the next plan of p, and at most 10; or there is no next plan
abbrev pub Found : List ℕ → List ℕ → Option ℕ → Type 0
Found p q (Some n) = (n ≤ 10) × (next_plan p ≡ some (take n q))
Found p q None = next_plan p ≡ none
