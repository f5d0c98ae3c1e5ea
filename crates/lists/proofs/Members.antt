-- Membership: all, any and keep by it, numbers in a row, rising lists. Assumes nothing.
use mathlib.Core.Path.{◌≡◌, refl, ◌∙◌, ap, ap₂}
use mathlib.Core.Bool.{Bool, true, false, ◌&&◌, ◌||◌, cond, false≢true}
use mathlib.Core.List.{List, [], ◌∷◌, ◌++◌, map}
use mathlib.Core.Logic.{◌⊎◌, inl, inr}
use Prim.Native.Nat.{ℕ, zero, suc, ◌+◌, ◌≤◌, ◌<◌}
use lib.Dec.{eqb}
use lib.ListN.{length}
use borrow.Author.Tests.{eqb-true, eqb-false}
use native.Mathlib.Omega.{arith}
use Rattle.lists.specs.Seq.{all, any, keep, up_from, last_or}
use Rattle.lists.specs.Member.{In, here, there, Rising, end, next}
use Rattle.lists.proofs.Logic.{both, either, and_left, and_right, decided}

module _ {A : Type 0} where
  pub in-none : {x : A} → In x [] → ⊥
  in-none = elim [ ]

  pub all-at : (f : A → Bool) {x : A} {xs : List A} → In x xs → all f xs ≡ true → f x ≡ true
  unfolding all
  all-at f (here {y = y} {xs = xs} q) h = ap f q ∙ and_left (f y) (all f xs) h
  all-at f (there {y = y} {xs = xs} i) h = all-at f i (and_right (f y) (all f xs) h)

  pub all-by : (f : A → Bool) (xs : List A) → ((x : A) → In x xs → f x ≡ true) → all f xs ≡ true
  unfolding all
  all-by f [] h = refl
  all-by f (y ∷ xs) h = (both (f y) (all f xs)).1 (h y (here refl), all-by f xs (λ x i. h x (there i)))

  pub all_same : (f g : A → Bool) (xs : List A) → ((x : A) → In x xs → f x ≡ g x) → all f xs ≡ all g xs
  unfolding all
  all_same f g [] h = refl
  all_same f g (x ∷ xs) h = ap₂ ◌&&◌ (h x (here refl)) (all_same f g xs (λ y i. h y (there i)))

  pub any_same : (f g : A → Bool) (xs : List A) → ((x : A) → In x xs → f x ≡ g x) → any f xs ≡ any g xs
  unfolding any
  any_same f g [] h = refl
  any_same f g (x ∷ xs) h = ap₂ ◌||◌ (h x (here refl)) (any_same f g xs (λ y i. h y (there i)))

  pub any-by : (f : A → Bool) {x : A} {xs : List A} → In x xs → f x ≡ true → any f xs ≡ true
  unfolding any
  any-by f (here q) h = rw (← q, h)
  any-by f (there {y = y} {xs = xs} i) h = (either (f y) (any f xs)).1 (inr (any-by f i h))

  pub any_at : (f : A → Bool) (xs : List A) → any f xs ≡ true → (x : A) × In x xs × (f x ≡ true)
  unfolding any
  any_at f [] h = absurd (false≢true h)
  any_at f (y ∷ xs) h = go (any_at f xs) ((either (f y) (any f xs)).0 h)
    where
      more : ((x : A) × In x xs × (f x ≡ true)) → (x : A) × In x (y ∷ xs) × (f x ≡ true)
      more r = (r.0, there r.1, r.2)

      go : (any f xs ≡ true → (x : A) × In x xs × (f x ≡ true)) → (f y ≡ true) ⊎ (any f xs ≡ true) →
          (x : A) × In x (y ∷ xs) × (f x ≡ true)
      go k (inl e) = (y, here refl, e)
      go k (inr e) = more (k e)

  pub keep-in : (f : A → Bool) (xs : List A) {x : A} → In x (keep f xs) → In x xs × (f x ≡ true)
  unfolding keep
  keep-in f [] {x = x} i = elim i [ ]
  keep-in f (y ∷ xs) {x} i = go (f y) refl (keep-in f xs) i
    where
      go : (b : Bool) → f y ≡ b → (In x (keep f xs) → In x xs × (f x ≡ true)) → In x (cond b (y ∷ keep f xs) (keep f xs)) →
          In x (y ∷ xs) × (f x ≡ true)
      go true e k (here q) = (here q, ap f q ∙ e)
      go true e k (there j) = (there (k j).0, (k j).1)
      go false e k j = (there (k j).0, (k j).1)

  pub in-keep : (f : A → Bool) {x : A} {xs : List A} → In x xs → f x ≡ true → In x (keep f xs)
  unfolding keep
  in-keep f (here q) h = rw (← q, h) (here refl)
  in-keep f {x = x} (there {y = y} {xs = xs} i) h = go (f y) (in-keep f i h)
    where
      go : (b : Bool) → In x (keep f xs) → In x (cond b (y ∷ keep f xs) (keep f xs))
      go true j = there j
      go false j = j

module _ {A B : Type 0} where
  pub all_map : (f : B → Bool) (g : A → B) (xs : List A) → all f (map g xs) ≡ all (λ x. f (g x)) xs
  unfolding all
  all_map f g [] = refl
  all_map f g (x ∷ xs) = rw (all_map f g xs)

  pub any-map : (f : B → Bool) (g : A → B) (xs : List A) → any f (map g xs) ≡ any (λ x. f (g x)) xs
  unfolding any
  any-map f g [] = refl
  any-map f g (x ∷ xs) = rw (any-map f g xs)

pub all_append {ℓ} : {A : Type ℓ} (f : A → Bool) (xs ys : List A) → all f (xs ++ ys) ≡ (all f xs && all f ys)
unfolding all
all_append f [] ys = refl
all_append f (x ∷ xs) ys = go (f x) (all_append f xs ys)
  where
    go : (b : Bool) → all f (xs ++ ys) ≡ (all f xs && all f ys) → (b && all f (xs ++ ys)) ≡ (b && all f xs && all f ys)
    go true h = h
    go false h = refl

pub any_append {ℓ} : {A : Type ℓ} (f : A → Bool) (xs ys : List A) → any f (xs ++ ys) ≡ (any f xs || any f ys)
unfolding any
any_append f [] ys = refl
any_append f (x ∷ xs) ys = go (f x) (any_append f xs ys)
  where
    go : (b : Bool) → any f (xs ++ ys) ≡ (any f xs || any f ys) → (b || any f (xs ++ ys)) ≡ (b || any f xs || any f ys)
    go true h = refl
    go false h = h

pub rising-above : {d : ℕ} {cs : List ℕ} {v : ℕ} → Rising d cs → In v cs → d < v
rising-above {v = v} (end {d = d}) x4 = elim x4 [ ]
rising-above (next h r) (here q) = omega arith
rising-above (next h r) (there i) = let k = rising-above r i in omega arith

pub rising-lower : {d e : ℕ} {cs : List ℕ} → e ≤ d → Rising d cs → Rising e cs
rising-lower h end = end
rising-lower {e = e} h (next {c = c} k r) = next {d = e} {c = c} (omega arith) r

pub rising-keep : (f : ℕ → Bool) {d : ℕ} {cs : List ℕ} → Rising d cs → Rising d (keep f cs)
unfolding keep
rising-keep f end = end
rising-keep f {d} (next {c = c} {cs = cs} h r) = go (f c) (rising-keep f r)
  where
    go : (b : Bool) → Rising c (keep f cs) → Rising d (cond b (c ∷ keep f cs) (keep f cs))
    go true k = next h k
    go false k = rising-lower (omega arith) k

pub rising-up : (d from count : ℕ) → d < from → Rising d (up_from from count)
unfolding up_from
rising-up d from zero h = end
rising-up d from (suc count) h = next h (rising-up from (suc from) count (omega arith))

pub in-up : (from count v : ℕ) → from ≤ v → v < from + count → In v (up_from from count)
unfolding up_from
in-up from zero v h k = absurd (omega arith)
in-up from (suc count) v h k = go (decided (eqb v from)) (in-up (suc from) count v)
  where
    go : (eqb v from ≡ true) ⊎ (eqb v from ≡ false) → (suc from ≤ v → v < suc from + count → In v (up_from (suc from) count)) →
        In v (from ∷ up_from (suc from) count)
    go (inl e) r = here (eqb-true v from e)
    go (inr e) r = there (r (omega (arith, eqb-false v from e)) (omega arith))

pub up_in : (from count : ℕ) {v : ℕ} → In v (up_from from count) → (from ≤ v) × (v < from + count)
unfolding up_from
up_in from zero {v = v} x' = elim x' [ ]
up_in from (suc count) (here q) = omega arith
up_in from (suc count) (there i) = let k = up_in (suc from) count i in omega arith

pub in_some : {xs : List ℕ} {x : ℕ} → In x xs → 0 < length xs
in_some (here q) = omega arith
in_some (there i) = omega arith

pub none_in : (xs : List ℕ) → ((x : ℕ) → In x xs → ⊥) → xs ≡ []
none_in [] h = refl
none_in (x ∷ xs) h = absurd (h x (here refl))

pub last-in : (d c : ℕ) (cs : List ℕ) → In (last_or d (c ∷ cs)) (c ∷ cs)
unfolding last_or
last-in d c [] = here refl
last-in d c (e ∷ cs) = there (last-in c e cs)

pub last-low : {d : ℕ} {cs : List ℕ} → Rising d cs → d ≤ last_or d cs
unfolding last_or
last-low end = omega arith
last-low (next h r) = let k = last-low r in omega arith

pub last-top : {d c : ℕ} {cs : List ℕ} → Rising d cs → In c cs → c ≤ last_or d cs
unfolding last_or
last-top {c = c} (end {d = d}) x4 = elim x4 [ ]
last-top (next h r) (here q) = let k = last-low r in omega arith
last-top (next h r) (there i) = last-top r i
