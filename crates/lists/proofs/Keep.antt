-- Laws of keep and up_from, a turn of a loop at a time. Assumes nothing.
use mathlib.Core.Path.{◌≡◌, refl}
use mathlib.Core.Bool.{Bool, true, false, ◌&&◌, cond}
use mathlib.Core.List.{List, [], ◌∷◌, ◌++◌}
use Prim.Native.Nat.{ℕ, suc, ◌+◌, ◌-◌, ◌≤◌, ◌<◌}
use native.Mathlib.Nat.{sub-eq-zero_of_le}
use native.Mathlib.Numerals.{add-one}
use native.Mathlib.Omega.{arith}
use lib.ListN.{length}
use Rattle.lists.specs.Seq.{keep, up_from}
use Rattle.lists.specs.Member.{In, here, there}

pub up_step : (c n : ℕ) → c < n → up_from c (n - c) ≡ c ∷ up_from (c + 1) (n - (c + 1))
unfolding up_from
up_step c n l = let e : n - c ≡ suc (n - (c + 1)) = omega arith in rw (e, add-one)

module _ (f : ℕ → Bool) (c n : ℕ) where
  pub keep-yes : c < n → f c ≡ true → keep f (up_from c (n - c)) ≡ c ∷ keep f (up_from (c + 1) (n - (c + 1)))
  unfolding keep
  keep-yes l h = rw (up_step c n l, h)

  pub keep-no : c < n → f c ≡ false → keep f (up_from c (n - c)) ≡ keep f (up_from (c + 1) (n - (c + 1)))
  unfolding keep
  keep-no l h = rw (up_step c n l, h)

  pub keep_out : n ≤ c → keep f (up_from c (n - c)) ≡ []
  unfolding keep up_from
  keep_out l = rw (sub-eq-zero_of_le l)

pub keep_same : (f g : ℕ → Bool) (xs : List ℕ) → ((x : ℕ) → In x xs → f x ≡ g x) → keep f xs ≡ keep g xs
unfolding keep
keep_same f g [] h = refl
keep_same f g (x ∷ xs) h = rw (h x (here refl), keep_same f g xs (λ y i. h y (there i)))

pub keep-keep : (f g : ℕ → Bool) (xs : List ℕ) → keep g (keep f xs) ≡ keep (λ x. f x && g x) xs
unfolding keep
keep-keep f g [] = refl
keep-keep f g (x ∷ xs) = go (f x) (keep-keep f g xs)
  where
    go : (b : Bool) → keep g (keep f xs) ≡ keep (λ x. f x && g x) xs → keep g (cond b (x ∷ keep f xs) (keep f xs))
        ≡ cond (b && g x) (x ∷ keep (λ x. f x && g x) xs) (keep (λ x. f x && g x) xs)
    go true h = rw h
    go false h = h

pub keep_append : (f : ℕ → Bool) (xs ys : List ℕ) → keep f (xs ++ ys) ≡ keep f xs ++ keep f ys
unfolding keep
keep_append f [] ys = refl
keep_append f (x ∷ xs) ys = go (f x) (keep_append f xs ys)
  where
    go : (b : Bool) → keep f (xs ++ ys) ≡ keep f xs ++ keep f ys →
        cond b (x ∷ keep f (xs ++ ys)) (keep f (xs ++ ys)) ≡ cond b (x ∷ keep f xs) (keep f xs) ++ keep f ys
    go true h = rw h
    go false h = h

pub keep-short : (f : ℕ → Bool) (xs : List ℕ) → length (keep f xs) ≤ length xs
unfolding keep
keep-short f [] = omega arith
keep-short f (x ∷ xs) = go (f x) (keep-short f xs)
  where
    go : (b : Bool) → length (keep f xs) ≤ length xs → length (cond b (x ∷ keep f xs) (keep f xs)) ≤ suc (length xs)
    go true h = omega arith
    go false h = omega arith
