-- Laws of writing something for each member of a list, one after another. Assumes nothing.
use mathlib.Core.Path.{◌≡◌}
use mathlib.Core.List.{List, [], ◌∷◌, flat_map}
use Prim.Native.Nat.{ℕ, zero, suc, ◌+◌, ◌*◌, ◌≤◌, ◌<◌}
use native.Mathlib.Omega.{arith}
use lib.ListN.{length, get_or, drop, length-append, length-drop, drop_of_length-le}
use Rattle.lists.specs.Seq.{up_from}
use Rattle.lists.specs.Put.{Put}
use Rattle.lists.proofs.PutLaws.{Left, left-all, left-none, left-put, drop-turn}

-- k bytes for each
pub each-length : (f : ℕ → List ℕ) (k : ℕ) → ((x : ℕ) → length (f x) ≡ k) → (xs : List ℕ) → length (flat_map f xs) ≡ k * length xs
unfolding flat_map
each-length f k e [] = omega arith
each-length f k e (x ∷ xs) = omega (arith, length-append (f x) (flat_map f xs), e x, each-length f k e xs)

-- what is written for xs, of which i are done
pub record EachLeft (f : ℕ → List ℕ) (xs b₀ : List ℕ) (w₀ : ℕ) (b : List ℕ) (w i : ℕ) : Type 0 where
  pub within : i ≤ length xs
  pub left : Left (flat_map f (drop i xs)) (flat_map f xs) b₀ w₀ b w

pub each_all : (f : ℕ → List ℕ) (xs b : List ℕ) (w : ℕ) → EachLeft f xs b w b w 0
each_all f xs b w = record { within = omega arith; left = left-all (flat_map f xs) b w }

module _ {f : ℕ → List ℕ} {xs b₀ : List ℕ} {w₀ : ℕ} {b : List ℕ} {w i : ℕ} (h : EachLeft f xs b₀ w₀ b w i) where
  pub each-place : (k : ℕ) → ((x : ℕ) → length (f x) ≡ k) → w ≡ w₀ + k * i
  each-place k e =
      let m : length xs ≡ length (drop i xs) + i = omega (arith, h.within, length-drop i xs) in
      let n : k * length xs ≡ k * length (drop i xs) + k * i = rw m (omega arith) in
      omega (arith, n, h.left.place, each-length f k e xs, each-length f k e (drop i xs))

  pub each_turn : {b' : List ℕ} {w' : ℕ} → i < length xs → Put (f (get_or xs i 0)) b w b' w' → EachLeft f xs b₀ w₀ b' w' (i + 1)
  unfolding flat_map
  each_turn l p = record { within = omega arith; left = left-put (f (get_or xs i 0)) (flat_map f (drop (i + 1) xs)) (rw (drop-turn xs i l) at h.left) p }

  pub each-done : length xs ≤ i → Put (flat_map f xs) b₀ w₀ b w
  unfolding flat_map
  each-done l = left-none (rw (drop_of_length-le xs l) at h.left)

-- the members of numbers in a row
pub up_at : (from n i : ℕ) → i < n → get_or (up_from from n) i 0 ≡ from + i
unfolding up_from
up_at from zero i l = absurd (omega arith)
up_at from (suc n) zero l = omega arith
up_at from (suc n) (suc i) l = omega (arith, up_at (suc from) n i (omega arith))
