-- A function's table as a list, and numbers in a row from the end. Assumes nothing.
use mathlib.Core.Path.{◌≡◌, refl, sym, ◌∙◌, ap}
use mathlib.Core.List.{List, [], ◌∷◌, ◌++◌, map}
use Prim.Native.Nat.{ℕ, zero, suc, ◌+◌, ◌<◌}
use native.Mathlib.Omega.{arith}
use lib.ListN.{length, get_or, length-map}
use lib.Seq.{ext_get_or}
use Rattle.lists.specs.Seq.{up_from, table}

pub up-length : (from count : ℕ) → length (up_from from count) ≡ count
unfolding up_from
up-length from zero = refl
up-length from (suc count) = ap suc (up-length (suc from) count)

pub up_suc : (from count : ℕ) → up_from from (suc count) ≡ up_from from count ++ ((from + count) ∷ [])
unfolding up_from
up_suc from zero = ap (λ k. k ∷ []) (omega arith)
up_suc from (suc count) = ap (λ l. from ∷ l) (up_suc (suc from) count ∙ ap (λ k. up_from (suc from) count ++ (k ∷ [])) (omega arith))

pub table-length : (f : ℕ → ℕ) (n : ℕ) → length (table f n) ≡ n
unfolding table
table-length f n = length-map (up_from 0 n) f ∙ up-length 0 n

at_from : (f : ℕ → ℕ) (from n i : ℕ) → i < n → get_or (map f (up_from from n)) i 0 ≡ f (from + i)
unfolding up_from
at_from f from zero i l = absurd (omega arith)
at_from f from (suc n) zero l = ap f (omega arith)
at_from f from (suc n) (suc i) l = at_from f (suc from) n i (omega arith) ∙ ap f (omega arith)

pub table_at : (f : ℕ → ℕ) (n i : ℕ) → i < n → get_or (table f n) i 0 ≡ f i
unfolding table
table_at f n i l = at_from f 0 n i l ∙ ap f (omega arith)

-- a list is the table if it is by points
pub table-by : (f : ℕ → ℕ) (n : ℕ) (s : List ℕ) → length s ≡ n → ((i : ℕ) → i < n → get_or s i 0 ≡ f i) → s ≡ table f n
table-by f n s e h = ext_get_or 0 s (table f n) (e ∙ sym (table-length f n)) (λ i l. let m : i < n = omega arith in h i m ∙ sym (table_at f n i m))
