-- Lists whose bytes are each within a range by its place: the candidates of the search (rules A2, A3, A5). Definitions only.
use Rattle.std.specs.Prelude.{◌≡◌, cond, ◌&&◌, List, [], ◌∷◌, ℕ, zero, suc, ◌+◌, ◌-◌, ◌*◌, ◌/◌, ◌%◌, ◌≤◌, eqb, ltb, length}
use Rattle.std.proofs.Math.Option.{Option, none, some}
use Rattle.plan.specs.Plan.{size}
use Rattle.lists.specs.Smallest.{behind, or_else}

-- A2, A3: the least byte at a place of a plan: kinds begin with 1, parents with 0, and the root names 255
unfoldable pub lowest : ℕ → ℕ
lowest i = cond (eqb (i % 2) 0) 1 (cond (eqb i 1) 255 0)

-- A2, A3, A5: the greatest in a plan of n bytes: kinds go up to 8, but the last node is a task; parents go up to the node before
unfoldable pub highest : ℕ → ℕ → ℕ
highest n i = cond (eqb (i % 2) 0) (cond (eqb (i + 2) n) 1 8) (cond (eqb i 1) 255 (i / 2 - 1))

-- A2, A3, A5: the bytes l, from place i on, are within these ranges
pub data Fits : ℕ → ℕ → List ℕ → Type 0 where
  end : {n i : ℕ} → Fits n i []
  more : {n i b : ℕ} {l : List ℕ} → lowest i ≤ b → b ≤ highest n i → Fits n (suc i) l → Fits n i (b ∷ l)

-- A1, A2, A3: a candidate, of whole nodes
pub record Candidate (q : List ℕ) : Type 0 where
  pub fits : Fits (length q) 0 q
  pub even : length q ≡ 2 * size q

-- T2: the least n bytes from place i on
unfoldable pub lows : ℕ → ℕ → List ℕ
lows i zero = []
lows i (suc n) = lowest i ∷ lows (suc i) n

-- T2: of the lists of n bytes that differ from l, the bytes from place i on, before place k, the next one: the last byte there that can be
-- raised is, and all behind it are the least
unfoldable pub advance : ℕ → ℕ → ℕ → List ℕ → Option (List ℕ)
advance n k i [] = none
advance n k i (b ∷ l) = or_else (behind b (advance n k (suc i) l)) (cond (ltb i k && ltb b (highest n i)) (some ((b + 1) ∷ lows (suc i) (length l))) none)

-- T2: the list that an advance found; if it found none, the least n bytes
unfoldable pub or_lows : Option (List ℕ) → ℕ → List ℕ
or_lows (some a) n = a
or_lows none n = lows 0 n

-- T2: the next candidate that differs before k; behind the last of a length it is the least one with a node more
unfoldable pub following : ℕ → List ℕ → List ℕ
following k q = or_lows (advance (length q) k 0 q) (length q + 2)
