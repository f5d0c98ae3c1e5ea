-- Lists, and tests over them and over the numbers below a bound: common words, which state no rule of their own. Definitions only.
use Rattle.std.specs.Prelude.{Bool, true, false, ◌&&◌, ◌||◌, cond, List, [], ◌∷◌, map, ℕ, zero, suc, ◌+◌, ltb}

unfoldable pub all {ℓ} : {A : Type ℓ} → (A → Bool) → List A → Bool
all f [] = true
all f (x ∷ xs) = f x && all f xs

unfoldable pub any {ℓ} : {A : Type ℓ} → (A → Bool) → List A → Bool
any f [] = false
any f (x ∷ xs) = f x || any f xs

unfoldable pub keep {ℓ} : {A : Type ℓ} → (A → Bool) → List A → List A
keep f [] = []
keep f (x ∷ xs) = cond (f x) (x ∷ keep f xs) (keep f xs)

-- from, from + 1, .., count of them
unfoldable pub up_from : ℕ → ℕ → List ℕ
up_from from zero = []
up_from from (suc count) = from ∷ up_from (suc from) count

-- f holds at each number below n
unfoldable pub all_below : (ℕ → Bool) → ℕ → Bool
all_below f zero = true
all_below f (suc n) = all_below f n && f n

-- f 0 + f 1 + .., n of them
unfoldable pub sum_below : (ℕ → ℕ) → ℕ → ℕ
sum_below f zero = 0
sum_below f (suc n) = sum_below f n + f n

-- f 0, f 1, .., n of them
unfoldable pub table : (ℕ → ℕ) → ℕ → List ℕ
table f n = map f (up_from 0 n)

-- the first one, and d of none
unfoldable pub head_or {ℓ} : {A : Type ℓ} → A → List A → A
head_or d [] = d
head_or d (x ∷ xs) = x

-- the last one, and d of none
unfoldable pub last_or {ℓ} : {A : Type ℓ} → A → List A → A
last_or d [] = d
last_or d (x ∷ xs) = last_or x xs

-- those of cs below v
unfoldable pub earlier : List ℕ → ℕ → List ℕ
earlier cs v = keep (λ c. ltb c v) cs
