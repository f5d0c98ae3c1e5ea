-- Tests over lists by points: where one fails, what grows; members of maps and of appended lists; the members below a number. Assumes nothing.
use mathlib.Core.Path.{◌≡◌, refl, ◌∙◌, ap}
use mathlib.Core.Bool.{Bool, true, false, not, ◌&&◌, ◌||◌, cond, or-false, true≢false}
use mathlib.Core.List.{List, [], ◌∷◌, ◌++◌, map}
use mathlib.Core.Logic.{◌⊎◌, inl, inr}
use Prim.Native.Nat.{ℕ, suc, ◌≤◌, ◌<◌}
use lib.Dec.{eqb, ltb}
use lib.ListN.{length}
use borrow.Author.Tests.{le-ltb, lt-ltb, ltb-false, ltb-true, ne_eqb}
use native.Mathlib.Omega.{arith}
use Rattle.lists.specs.Seq.{all, any, keep, last_or, earlier}
use Rattle.lists.specs.Member.{In, here, there, Rising, next}
use Rattle.lists.proofs.Logic.{cases, same_bool, no_bool, either, and_right, and-join, clash, decided}
use Rattle.lists.proofs.Members.{all-at, all-by, any-by, any_at, keep-in, in-keep, any_append, rising-above, none_in, last-in, last-top}
use Rattle.lists.proofs.Keep.{keep_same, keep-keep, keep-short}

pub or-grows : (a b c d : Bool) → (a ≡ true → c ≡ true) → (b ≡ true → d ≡ true) → (a || b) ≡ true → (c || d) ≡ true
or-grows a b c d f g h = (either c d).1 (cases ((either a b).0 h) (λ e. inl (f e)) (λ e. inr (g e)))

module _ {A : Type 0} where
  pub all-grows : (f g : A → Bool) (xs : List A) → ((x : A) → f x ≡ true → g x ≡ true) → all f xs ≡ true → all g xs ≡ true
  all-grows f g xs h k = all-by g xs (λ x i. h x (all-at f i k))

  pub any-grows : (f g : A → Bool) (xs : List A) → ((x : A) → f x ≡ true → g x ≡ true) → any f xs ≡ true → any g xs ≡ true
  any-grows f g xs h k = let r = any_at f xs k in any-by g r.1 (h r.0 r.2)

  pub any_none : (f : A → Bool) {xs : List A} {x : A} → In x xs → any f xs ≡ false → f x ≡ false
  any_none f {x = x} i h = no_bool (f x) (λ e. clash _ (any-by f i e) h)

  pub all-missed : (f : A → Bool) (xs : List A) → all f xs ≡ false → (x : A) × In x xs × (f x ≡ false)
  unfolding all
  all-missed f [] h = absurd (true≢false h)
  all-missed f (y ∷ xs) h = go (f y) refl h (all-missed f xs)
    where
      go : (b : Bool) → f y ≡ b → (b && all f xs) ≡ false → (all f xs ≡ false → (x : A) × In x xs × (f x ≡ false)) → (x : A) × In x (y ∷ xs) × (f x ≡ false)
      go true e k later = let r = later k in (r.0, there r.1, r.2)
      go false e k later = (y, here refl, e)

  pub some_in : (xs : List A) → 0 < length xs → (x : A) × In x xs
  some_in [] h = absurd (omega arith)
  some_in (x ∷ xs) h = (x, here refl)

  pub in_left : {x : A} {xs : List A} (ys : List A) → In x xs → In x (xs ++ ys)
  in_left ys (here q) = here q
  in_left ys (there i) = there (in_left ys i)

  pub in_right : {x : A} (xs : List A) {ys : List A} → In x ys → In x (xs ++ ys)
  in_right [] i = i
  in_right (x ∷ xs) i = there (in_right xs i)

  -- one more at the end
  pub in-snoc : (xs : List A) {x y : A} → In x (xs ++ (y ∷ [])) → (In x xs) ⊎ (x ≡ y)
  in-snoc [] {y = y} (there i) = elim i [ ]
  in-snoc [] (here q) = inr q
  in-snoc (z ∷ xs) (here q) = inl (here q)
  in-snoc (z ∷ xs) (there i) = cases (in-snoc xs i) (λ j. inl (there j)) inr

  pub any_snoc : (f : A → Bool) (xs : List A) (y : A) → any f (xs ++ (y ∷ [])) ≡ (any f xs || f y)
  unfolding any
  any_snoc f xs y = any_append f xs (y ∷ []) ∙ simp or-false

  pub any-keep : (f : A → Bool) (xs : List A) → any f xs ≡ not (eqb (length (keep f xs)) 0)
  unfolding any keep
  any-keep f [] = refl
  any-keep f (x ∷ xs) = go (f x) (any-keep f xs)
    where
      go : (b : Bool) → any f xs ≡ not (eqb (length (keep f xs)) 0) → (b || any f xs) ≡ not (eqb (length (cond b (x ∷ keep f xs) (keep f xs))) 0)
      go true h = rw (ne_eqb (suc (length (keep f xs))) 0 (λ z. omega arith))
      go false h = h

module _ {A B : Type 0} where
  pub map-in : (g : A → B) {x : A} {xs : List A} → In x xs → In (g x) (map g xs)
  map-in g (here q) = here (ap g q)
  map-in g (there i) = there (map-in g i)

  pub in_map : (g : A → B) (xs : List A) {y : B} → In y (map g xs) → (x : A) × In x xs × (y ≡ g x)
  in_map g [] {y = y} x' = elim x' [ ]
  in_map g (x ∷ xs) (here q) = (x, here refl, q)
  in_map g (x ∷ xs) (there i) = let r = in_map g xs i in (r.0, there r.1, r.2)

-- the members below v
pub in-earlier : {cs : List ℕ} {v c : ℕ} → In c cs → c < v → In c (earlier cs v)
unfolding earlier
in-earlier {v = v} {c = c} i h = in-keep (λ c. ltb c v) i (lt-ltb c v h)

pub earlier-in : (cs : List ℕ) (v : ℕ) {c : ℕ} → In c (earlier cs v) → In c cs × (c < v)
unfolding earlier
earlier-in cs v {c} i = let k = keep-in (λ c. ltb c v) cs i in (k.0, ltb-true c v k.1)

pub earlier-fewer : (v : ℕ) {cs : List ℕ} → In v cs → length (earlier cs v) < length cs
unfolding earlier keep
earlier-fewer v (here {y = y} {xs = xs} q) = rw (le-ltb y v (omega arith)) (let k = keep-short (λ c. ltb c v) xs in omega arith)
earlier-fewer v (there {y = y} {xs = xs} i) = go (ltb y v) (earlier-fewer v i)
  where
    go : (b : Bool) → length (keep (λ c. ltb c v) xs) < length xs → length (cond b (y ∷ keep (λ c. ltb c v) xs) (keep (λ c. ltb c v) xs)) < suc (length xs)
    go true h = omega arith
    go false h = omega arith

-- the last of a rising list
pub last-member : (d : ℕ) (cs : List ℕ) → 0 < length cs → In (last_or d cs) cs
last-member d [] h = absurd (omega arith)
last-member d (c ∷ cs) h = last-in d c cs

pub last-greatest : {e : ℕ} (d : ℕ) {cs : List ℕ} {c : ℕ} → Rising e cs → In c cs → c ≤ last_or d cs
unfolding last_or
last-greatest {e = e} d {c = c} Rattle.lists.specs.Member.end i = elim i [ ]
last-greatest d (next h r) i = last-top (next h r) i

-- the place of a member of a rising list: how many stand before it
pub earlier-none : {d : ℕ} (v : ℕ) {cs : List ℕ} → v ≤ d → Rising d cs → earlier cs v ≡ []
earlier-none v {cs} h r = none_in (earlier cs v) (λ c i. let k = earlier-in cs v i in let a = rising-above r k.0 in omega arith)

pub earlier-split : {d : ℕ} (ds : List ℕ) (c : ℕ) (cs : List ℕ) → Rising d (ds ++ (c ∷ cs)) → earlier (ds ++ (c ∷ cs)) c ≡ ds
unfolding earlier keep
earlier-split [] c cs (next h r) = rw (le-ltb c c (omega arith)) (earlier-none c (omega arith) r)
earlier-split (y ∷ ds) c cs (next h r) = rw (lt-ltb y c (rising-above r (in_right ds (here refl)))) (ap (λ (l : List ℕ). y ∷ l) (earlier-split ds c cs r))

place-less : (cs : List ℕ) (c d : ℕ) → In c cs → c < d → length (earlier cs c) < length (earlier cs d)
unfolding earlier
place-less cs c d i l =
    let again : earlier (earlier cs d) c ≡ earlier cs c =
    keep-keep (λ x. ltb x d) (λ x. ltb x c) cs
    ∙ keep_same (λ x. ltb x d && ltb x c) (λ x. ltb x c) cs (λ x j. same_bool _ _ (and_right (ltb x d) (ltb x c)) (λ h. let k = ltb-true x c h in and-join _ _ (lt-ltb x d (omega arith)) h)) in
    rw again at (earlier-fewer c (in-earlier {v = d} i l))

pub place-injective : (cs : List ℕ) (c d : ℕ) → In c cs → In d cs → length (earlier cs c) ≡ length (earlier cs d) → c ≡ d
place-injective cs c d i j e = cases (decided (ltb c d))
    (λ h. let k = place-less cs c d i (ltb-true c d h) in absurd (omega arith))
    (λ h. cases (decided (ltb d c))
    (λ g. let k = place-less cs d c j (ltb-true d c g) in absurd (omega arith))
    (λ g. omega (arith, ltb-false c d h, ltb-false d c g)))
