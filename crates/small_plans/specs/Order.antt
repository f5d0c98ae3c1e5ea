-- Small plans, their order, and the next one (rules T). Definitions only.
use Rattle.std.specs.Prelude.{◌≡◌, Bool, false, ◌&&◌, ◌||◌, List, [], ◌∷◌, ◌⊎◌, ℕ, suc, ◌*◌, ◌<◌, eqb, ltb}
use Rattle.std.proofs.Math.Option.{Option}
use Rattle.plan.specs.Plan.{size}
use Rattle.plan.specs.Check.{check_number}
use Rattle.lists.specs.Smallest.{Less, first_below, smallest}

-- T2: at the first place where the lists differ, the first one has the smaller byte
unfoldable pub is_less : List ℕ → List ℕ → Bool
is_less [] m = false
is_less (b ∷ l) [] = false
is_less (b ∷ l) (c ∷ m) = ltb b c || (eqb b c && is_less l m)

-- T2: p comes before q: it has fewer nodes, or as many and the smaller bytes
unfoldable pub is_before : List ℕ → List ℕ → Bool
is_before p q = ltb (size p) (size q) || (eqb (size p) (size q) && is_less p q)

-- T2: the same as a fact
abbrev pub Before : List ℕ → List ℕ → Type 0
Before p q = (size p < size q) ⊎ ((size p ≡ size q) × Less p q)

-- T1, T3: q is accepted and comes after p
unfoldable pub is_later : List ℕ → List ℕ → Bool
is_later p q = eqb (check_number q) 0 && is_before p q

-- T3: the next plan, if there is one: of the smallest later ones of 1, 2, .. 5 nodes, the first
unfoldable pub next_plan : List ℕ → Option (List ℕ)
next_plan p = first_below (λ i. smallest (2 * suc i) (is_later p)) 5
