-- The next list of the same length that differs before a place is the least such; where there is none, none is greater. Assumes nothing.
use mathlib.Core.Path.{◌≡◌, refl, ap}
use mathlib.Core.Bool.{Bool, true, false, cond, ◌&&◌}
use mathlib.Core.List.{List, [], ◌∷◌}
use mathlib.Core.Logic.{◌⊎◌, inl, inr}
use mathlib.Core.Option.{Option, none, some}
use Prim.Native.Nat.{ℕ, zero, suc, ◌+◌, ◌%◌, ◌≤◌, ◌<◌}
use native.Mathlib.Omega.{arith}
use lib.Dec.{eqb, ltb}
use lib.ListN.{length, get_or}
use borrow.Author.Tests.{eqb-true, eqb-false, ltb-true, ltb-false, lt-ltb}
use Rattle.lists.proofs.Logic.{cases, decided, no_bool, and_right, and-join, clash}
use Rattle.lists.specs.Smallest.{Less, here, there, behind, or_else}
use Rattle.next_plan.specs.Candidates.{lowest, highest, Fits, end, more, lows, advance}

less-some : {l m : List ℕ} → Less l m → 0 < length l
less-some (here h) = omega arith
less-some (there e h) = omega arith

pub lows-long : (i n : ℕ) → length (lows i n) ≡ n
unfolding lows
lows-long i zero = refl
lows-long i (suc n) = ap suc (lows-long (suc i) n)

-- two lists, from place i on, have the same bytes before place k
abbrev pub Agree : ℕ → ℕ → List ℕ → List ℕ → Type 0
Agree k i l r = (j : ℕ) → i + j < k → get_or l j 0 ≡ get_or r j 0

agree-more : (k i b c : ℕ) (l r : List ℕ) → b ≡ c → Agree k (suc i) l r → Agree k i (b ∷ l) (c ∷ r)
agree-more k i b c l r e h zero m = e
agree-more k i b c l r e h (suc j) m = h j (omega arith)

-- in lists of n bytes
module _ (n : ℕ) where
  -- the least list
  pub lows-least : (i m : ℕ) (r : List ℕ) → Fits n i r → length r ≡ m → (lows i m ≡ r) ⊎ Less (lows i m) r
  unfolding lows
  lows-least i zero [] f e = inl refl
  lows-least i zero (b ∷ l) f e = absurd (omega arith)
  lows-least i (suc m) [] f e = absurd (omega arith)
  lows-least i (suc m) (b ∷ l) (more h k f) e = cases (decided (eqb (lowest i) b))
      (λ z. let q = eqb-true (lowest i) b z in
      cases (lows-least (suc i) m l f (omega arith)) (λ s. inl (rw (q, s))) (λ s. inr (there q s)))
      (λ z. let ne = eqb-false (lowest i) b z in inr (here {b = lowest i} {c = b} (omega arith)))

  range : (i : ℕ) → lowest i ≤ highest n i
  unfolding lowest highest
  range i = cases (decided (eqb (i % 2) 0))
      (λ z. cases (decided (eqb (i + 2) n)) (λ y. rw (z, y) (omega arith)) (λ y. rw (z, y) (omega arith)))
      (λ z. cases (decided (eqb i 1)) (λ y. rw (z, y) (omega arith)) (λ y. rw (z, y) (omega arith)))

  pub lows-fit : (i m : ℕ) → Fits n i (lows i m)
  unfolding lows
  lows-fit i zero = end
  lows-fit i (suc m) = more {n = n} {i = i} {b = lowest i} (omega arith) (range i) (lows-fit (suc i) m)

  -- a is the next list behind l that differs before k
  pub record NextList (k i : ℕ) (l a : List ℕ) : Type 0 where
    pub fits : Fits n i a
    pub long : length a ≡ length l
    pub above : Less l a
    pub least : (r : List ℕ) → Fits n i r → length r ≡ length l → Less l r → Agree k i l r ⊎ ((a ≡ r) ⊎ Less a r)

  -- the byte b stays, and what is behind it goes on
  next-behind : (k i b : ℕ) (l a : List ℕ) → lowest i ≤ b → b ≤ highest n i → NextList k (suc i) l a → NextList k i (b ∷ l) (b ∷ a)
  next-behind k i b l a low high next = record {
    fits = more low high next.fits;
    long = ap suc next.long;
    above = there refl next.above;
    least = go;
  }
    where
      go : (r : List ℕ) → Fits n i r → length r ≡ suc (length l) → Less (b ∷ l) r → Agree k i (b ∷ l) r ⊎ (((b ∷ a) ≡ r) ⊎ Less (b ∷ a) r)
      go [] f e x3 = elim x3 [ ]
      go (c ∷ r) f e (here h) = inr (inr (here h))
      go (c ∷ r) (more x y f) e (there q h) = cases (next.least r f (omega arith) h) (λ s. inl (agree-more k i b c l r q s))
          (λ s. inr (cases s (λ s. inl (rw (q, s))) (λ s. inr (there q s))))

  -- nothing behind l differs from it before k
  abbrev Stays : ℕ → ℕ → List ℕ → Type 0
  Stays k i l = (r : List ℕ) → Fits n i r → length r ≡ length l → Less l r → Agree k i l r

  -- the byte b is raised, and the least are behind it
  next-raised : (k i b : ℕ) (l : List ℕ) → lowest i ≤ b → b < highest n i → Stays k (suc i) l → NextList k i (b ∷ l) ((b + 1) ∷ lows (suc i) (length l))
  next-raised k i b l low high stays = record {
    fits = more {n = n} {i = i} {b = b + 1} (omega arith) (omega arith) (lows-fit (suc i) (length l));
    long = ap suc (lows-long (suc i) (length l));
    above = here {b = b} {c = b + 1} (omega arith);
    least = go;
  }
    where
      go : (r : List ℕ) → Fits n i r → length r ≡ suc (length l) → Less (b ∷ l) r →
          Agree k i (b ∷ l) r ⊎ ((((b + 1) ∷ lows (suc i) (length l)) ≡ r) ⊎ Less ((b + 1) ∷ lows (suc i) (length l)) r)
      go [] _ e x4 = elim x4 [ ]
      go (c ∷ r) (more x y f) e (there q h) = inl (agree-more k i b c l r q (stays r f (omega arith) h))
      go (c ∷ r) (more x y f) e (here h) = inr (cases (decided (eqb (b + 1) c))
          (λ z. let q = eqb-true (b + 1) c z in cases (lows-least (suc i) (length l) r f (omega arith)) (λ s. inl (rw (q, s))) (λ s. inr (there q s)))
          (λ z. let ne = eqb-false (b + 1) c z in inr (here {b = b + 1} {c = c} (omega arith))))

  -- what an advance tells
  unfoldable pub Advanced : ℕ → ℕ → List ℕ → Option (List ℕ) → Type 0
  Advanced k i l (some a) = NextList k i l a
  Advanced k i l none = Stays k i l

  -- a byte that is not raised is behind the place or the greatest
  not-raised : (k i b : ℕ) → (ltb i k && ltb b (highest n i)) ≡ false → i < k → highest n i ≤ b
  not-raised k i b e l = ltb-false b (highest n i) (no_bool (ltb b (highest n i)) (λ z. clash _ (and-join _ _ (lt-ltb i k l) z) e))

  stays-more : (k i b : ℕ) (l : List ℕ) → (ltb i k && ltb b (highest n i)) ≡ false → Stays k (suc i) l → Stays k i (b ∷ l)
  stays-more k i b l e stays [] _ m x5 j d = elim x5 [ ]
  stays-more k i b l e stays (c ∷ r) (more x y f) m (here h) j d = let z = not-raised k i b e (omega arith) in omega arith
  stays-more k i b l e stays (c ∷ r) (more x y f) m (there q h) j d = agree-more k i b c l r q (stays r f (omega arith) h) j d

  pub advance-told : (k i : ℕ) (l : List ℕ) → Fits n i l → Advanced k i l (advance n k i l)
  unfolding advance Advanced behind or_else
  advance-told k i [] f = λ r g e h. let z = less-some h in absurd (omega arith)
  advance-told k i (b ∷ l) (more low high f) = go (advance n k (suc i) l) (advance-told k (suc i) l f)
    where
      go : (o : Option (List ℕ)) → Advanced k (suc i) l o →
          Advanced k i (b ∷ l) (or_else (behind b o) (cond (ltb i k && ltb b (highest n i)) (some ((b + 1) ∷ lows (suc i) (length l))) none))
      go (some a) told = next-behind k i b l a low high told
      go none told = raise (ltb i k && ltb b (highest n i)) refl
        where
          raise : (t : Bool) → (ltb i k && ltb b (highest n i)) ≡ t → Advanced k i (b ∷ l) (cond t (some ((b + 1) ∷ lows (suc i) (length l))) none)
          raise true e = next-raised k i b l low (ltb-true b (highest n i) (and_right (ltb i k) _ e)) told
          raise false e = stays-more k i b l e told
