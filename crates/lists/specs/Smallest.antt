-- The smallest list of bytes that passes a test (rules Q3, Q4, T2, T3). Definitions only.
use Rattle.std.specs.Prelude.{◌≡◌, Bool, true, false, cond, List, [], ◌∷◌, ℕ, zero, suc, ◌<◌}
use Rattle.std.proofs.Math.Option.{Option, none, some}

-- Q3, T2: at the first place where the lists differ, the first one has the smaller byte
pub data Less : List ℕ → List ℕ → Type 0 where
  here : {b c : ℕ} {l m : List ℕ} → b < c → Less (b ∷ l) (c ∷ m)
  there : {b c : ℕ} {l m : List ℕ} → b ≡ c → Less l m → Less (b ∷ l) (c ∷ m)

-- Q4: b in front of the list, if there is one
unfoldable pub behind : ℕ → Option (List ℕ) → Option (List ℕ)
behind b none = none
behind b (some l) = some (b ∷ l)

-- Q4: the first that there is of two
unfoldable pub or_else : Option (List ℕ) → Option (List ℕ) → Option (List ℕ)
or_else none g = g
or_else (some l) g = some l

-- Q4: the first that there is of f 0, f 1, .., n of them
unfoldable pub first_below : (ℕ → Option (List ℕ)) → ℕ → Option (List ℕ)
first_below f zero = none
first_below f (suc n) = or_else (first_below f n) (f n)

-- Q4: of all lists of n bytes the smallest that passes the test: the first byte behind which there is one, and the smallest behind it
unfoldable pub smallest : ℕ → (List ℕ → Bool) → Option (List ℕ)
smallest zero test = cond (test []) (some []) none
smallest (suc n) test = first_below (λ b. behind b (smallest n (λ l. test (b ∷ l)))) 256

-- Q6, T6: there is a list
unfoldable pub is_found : Option (List ℕ) → Bool
is_found (some l) = true
is_found none = false
