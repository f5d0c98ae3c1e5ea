-- Laws of `smallest`: it finds a list that passes, none that passes is smaller, and it finds one byte by byte. Assumes nothing.
use mathlib.Core.Path.{◌≡◌, refl, sym, ◌∙◌, ap}
use mathlib.Core.Bool.{Bool, true, false, cond}
use mathlib.Core.List.{List, [], ◌∷◌}
use mathlib.Core.Logic.{◌⊎◌, inl, inr}
use mathlib.Core.Option.{Option, none, some, some-injective, none-ne-some}
use Prim.Native.Nat.{ℕ, zero, suc, ◌<◌}
use lib.Dec.{eqb, ltb}
use lib.ListN.{get_or}
use borrow.Author.Tests.{eqb-true, eqb-false, ltb-true, ltb-false}
use native.Mathlib.Omega.{arith}
use Rattle.lists.specs.Bytes.{Bytes}
use Rattle.lists.proofs.Logic.{cases, clash, decided, no_bool}
use Rattle.lists.specs.Smallest.{Less, here, there, behind, or_else, first_below, smallest, is_found}

found-not : (l : List ℕ) → some l ≡ none → ⊥
found-not l e = none-ne-some l (sym e)

-- what is behind b
record Behind (b : ℕ) (r : Option (List ℕ)) (l : List ℕ) : Type 0 where
  rest : List ℕ
  is : r ≡ some rest
  all : l ≡ b ∷ rest

behind-found : (b : ℕ) (r : Option (List ℕ)) (l : List ℕ) → behind b r ≡ some l → Behind b r l
unfolding behind
behind-found b (some m) l e = record { rest = m; is = refl; all = sym (some-injective (b ∷ m) l e) }
behind-found b none l e = absurd (found-not l (sym e))

behind-empty : (b : ℕ) (r : Option (List ℕ)) → behind b r ≡ none → r ≡ none
unfolding behind
behind-empty b (some m) e = absurd (found-not (b ∷ m) e)
behind-empty b none e = refl

-- b is the first below n for which f finds
pub record First (f : ℕ → Option (List ℕ)) (n b : ℕ) (l : List ℕ) : Type 0 where
  pub low : b < n
  pub is : f b ≡ some l
  pub before : (c : ℕ) → c < b → f c ≡ none

module _ (f : ℕ → Option (List ℕ)) where
  pub below-empty : (n : ℕ) → first_below f n ≡ none → (b : ℕ) → b < n → f b ≡ none
  unfolding first_below or_else
  below-empty zero h b l = absurd (omega arith)
  below-empty (suc n) h b l = go (first_below f n) refl h (λ e k. below-empty n e b k)
    where
      go : (r : Option (List ℕ)) → first_below f n ≡ r → or_else r (f n) ≡ none → (first_below f n ≡ none → b < n → f b ≡ none) → f b ≡ none
      go (some m) e q i = absurd (found-not m q)
      go none e q i = cases (decided (eqb b n)) (λ z. rw (eqb-true b n z) q)
          (λ z. let ne : b ≡ n → ⊥ = eqb-false b n z in i e (omega arith))

  pub below-found : (n : ℕ) (l : List ℕ) → first_below f n ≡ some l → (b : ℕ) × First f n b l
  unfolding first_below or_else
  below-found zero l h = absurd (found-not l (sym h))
  below-found (suc n) l h = go (first_below f n) refl h (λ q. below-found n l q)
    where
      go : (r : Option (List ℕ)) → first_below f n ≡ r → or_else r (f n) ≡ some l → (first_below f n ≡ some l → (b : ℕ) × First f n b l) → (b : ℕ) × First f (suc n) b l
      go (some m) e q i = let r = i (e ∙ q) in (r.0, record { low = omega (arith, r.1.low); is = r.1.is; before = r.1.before })
      go none e q i = (n, record { low = omega arith; is = q; before = below-empty n e })

  below_none : (n : ℕ) → ((c : ℕ) → c < n → f c ≡ none) → first_below f n ≡ none
  unfolding first_below or_else
  below_none zero k = refl
  below_none (suc n) k = rw (below_none n (λ c j. k c (omega arith)), k n (omega arith))

  -- the first that there is
  below-first : (n b : ℕ) → b < n → ((c : ℕ) → c < b → f c ≡ none) → (f b ≡ none → ⊥) → first_below f n ≡ f b
  unfolding first_below or_else
  below-first zero b l h s = absurd (omega arith)
  below-first (suc n) b l h s = cases (decided (eqb b n))
      (λ z. let q = eqb-true b n z in rw (below_none n (λ c k. h c (omega arith)), q))
      (λ z. let ne : b ≡ n → ⊥ = eqb-false b n z in rw (below-first n b (omega arith) h s) (keep (f b) (f n) s))
    where
      keep : (r g : Option (List ℕ)) → (r ≡ none → ⊥) → or_else r g ≡ r
      keep (some m) g k = refl
      keep none g k = absurd (k refl)

bytes_rest : {n b : ℕ} {l : List ℕ} → Bytes (suc n) (b ∷ l) → Bytes n l
bytes_rest h = record { long = omega (arith, h.long); small = λ i. h.small (suc i) }

pub no-list : (n : ℕ) (test : List ℕ → Bool) → smallest n test ≡ none → (a : List ℕ) → Bytes n a → test a ≡ false
unfolding smallest
no-list zero test h [] y = no_bool (test []) (λ e. found-not [] (rw e at h))
no-list zero test h (b ∷ l) y = absurd (omega (arith, y.long))
no-list (suc n) test h [] y = absurd (omega (arith, y.long))
no-list (suc n) test h (b ∷ l) y = no-list n (λ l. test (b ∷ l)) (behind-empty b _ (below-empty _ 256 h b (y.small 0))) l (bytes_rest y)

-- of the lists of n bytes that pass the test l is the smallest
pub record Smallest (n : ℕ) (test : List ℕ → Bool) (l : List ℕ) : Type 0 where
  pub bytes : Bytes n l
  pub passes : test l ≡ true
  pub least : (a : List ℕ) → Bytes n a → test a ≡ true → (l ≡ a) ⊎ (Less l a)

module _ (n : ℕ) (test : List ℕ → Bool) (b : ℕ) (rest : List ℕ) (low : b < 256)
    (before : (c : ℕ) → c < b → behind c (smallest n (λ l. test (c ∷ l))) ≡ none) (s : Smallest n (λ l. test (b ∷ l)) rest) where
  least-from : (a : List ℕ) → Bytes (suc n) a → test a ≡ true → (b ∷ rest ≡ a) ⊎ (Less (b ∷ rest) a)
  least-from [] y t = absurd (omega (arith, y.long))
  least-from (c ∷ a) y t = cases (decided (eqb b c))
      (λ z. let q = eqb-true b c z in
      cases (s.least a (bytes_rest y) (rw q t)) (λ e. inl (λ i. q i ∷ e i)) (λ e. inr (there q e)))
      (λ z. let ne : b ≡ c → ⊥ = eqb-false b c z in
      cases (decided (ltb c b))
      (λ k. clash (test (c ∷ a)) t (no-list n (λ l. test (c ∷ l)) (behind-empty c _ (before c (ltb-true c b k))) a (bytes_rest y)))
      (λ k. let g = ltb-false c b k in inr (here (omega arith))))

  step_small : (i : ℕ) → get_or (b ∷ rest) i 0 < 256
  step_small zero = low
  step_small (suc i) = s.bytes.small i

  least_step : Smallest (suc n) test (b ∷ rest)
  least_step = record { bytes = record { long = ap suc s.bytes.long; small = step_small }; passes = s.passes; least = least-from }

pub found-least : (n : ℕ) (test : List ℕ → Bool) (l : List ℕ) → smallest n test ≡ some l → Smallest n test l
unfolding smallest
found-least zero test l h = go (test []) refl h
  where
    only : (a : List ℕ) → Bytes 0 a → [] ≡ a
    only [] y = refl
    only (b ∷ a) y = absurd (omega (arith, y.long))

    go : (b : Bool) → test [] ≡ b → cond b (some []) none ≡ some l → Smallest 0 test l
    go true e q = rw (← some-injective [] l q) (record { bytes = record { long = refl; small = λ i. omega arith }; passes = e; least = λ a y t. inl (only a y) })
    go false e q = absurd (found-not l (sym q))
found-least (suc n) test l h =
    let r = below-found (λ b. behind b (smallest n (λ l. test (b ∷ l)))) 256 l h in
    let s = behind-found r.0 (smallest n (λ l. test (r.0 ∷ l))) l r.1.is in
    rw s.all (least_step n test r.0 s.rest r.1.low r.1.before (found-least n (λ l. test (r.0 ∷ l)) s.rest s.is))

-- a list that passes is found
pub found_some : (n : ℕ) (test : List ℕ → Bool) (a : List ℕ) → Bytes n a → test a ≡ true → is_found (smallest n test) ≡ true
unfolding is_found
found_some n test a y t = go (smallest n test) refl
  where
    go : (r : Option (List ℕ)) → smallest n test ≡ r → is_found r ≡ true
    go (some l) e = refl
    go none e = clash (test a) t (no-list n test e a y)

pub is_none : (r : Option (List ℕ)) → is_found r ≡ false → r ≡ none
unfolding is_found
is_none (some l) e = clash true refl e
is_none none e = refl

none_is : (r : Option (List ℕ)) → r ≡ none → is_found r ≡ false
unfolding is_found
none_is r e = rw e

behind-none : (b : ℕ) (r : Option (List ℕ)) → r ≡ none → behind b r ≡ none
unfolding behind
behind-none b r e = rw e

-- the first byte behind which there is a list
pub smallest-step : (n : ℕ) (test : List ℕ → Bool) (b : ℕ) → b < 256 → ((c : ℕ) → c < b → is_found (smallest n (λ l. test (c ∷ l))) ≡ false) →
    is_found (smallest n (λ l. test (b ∷ l))) ≡ true → smallest (suc n) test ≡ behind b (smallest n (λ l. test (b ∷ l)))
unfolding smallest
smallest-step n test b low before this =
    let r : ℕ → Option (List ℕ) = λ c. smallest n (λ l. test (c ∷ l)) in
    below-first (λ c. behind c (r c)) 256 b low (λ c k. behind-none c (r c) (is_none (r c) (before c k)))
    (λ e. clash (is_found (r b)) this (none_is (r b) (behind-empty b (r b) e)))

-- no byte behind which there is one
pub smallest-none : (n : ℕ) (test : List ℕ → Bool) → ((c : ℕ) → c < 256 → is_found (smallest n (λ l. test (c ∷ l))) ≡ false) → is_found (smallest (suc n) test) ≡ false
unfolding smallest
smallest-none n test before =
    let r : ℕ → Option (List ℕ) = λ c. smallest n (λ l. test (c ∷ l)) in
    none_is (first_below (λ c. behind c (r c)) 256) (below_none (λ c. behind c (r c)) 256 (λ c k. behind-none c (r c) (is_none (r c) (before c k))))
