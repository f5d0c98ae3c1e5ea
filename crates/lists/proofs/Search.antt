-- Laws of searches: one passes a test unless all fail it, or unless none is kept; the numbers below a bound among numbers in a row.
-- Assumes nothing.
use mathlib.Core.Path.{◌≡◌, refl, ap}
use mathlib.Core.Bool.{Bool, true, false, ◌&&◌, ◌||◌, cond, not}
use mathlib.Core.List.{List, [], ◌∷◌}
use Prim.Native.Nat.{ℕ, zero, suc, ◌+◌, ◌-◌, ◌≤◌}
use lib.Dec.{ltb}
use borrow.Author.Tests.{ltb-true, ltb-false}
use native.Mathlib.Omega.{arith}
use native.Mathlib.Nat.{sub-eq-zero_of_le}
use Rattle.lists.specs.Seq.{all, any, keep, up_from, earlier}
use Rattle.lists.proofs.Logic.{cases, decided}

module _ {A : Type 0} (f : A → Bool) where
  pub any-opposite : (xs : List A) → any f xs ≡ not (all (λ x. not (f x)) xs)
  unfolding all any
  any-opposite [] = refl
  any-opposite (x ∷ xs) = go (f x) (any-opposite xs)
    where
      go : (b : Bool) → any f xs ≡ not (all (λ x. not (f x)) xs) → (b || any f xs) ≡ not (not b && all (λ x. not (f x)) xs)
      go true h = refl
      go false h = h

  pub any-kept : (xs : List A) → any f xs ≡ not (all (λ x. false) (keep f xs))
  unfolding all any keep
  any-kept [] = refl
  any-kept (x ∷ xs) = go (f x) (any-kept xs)
    where
      go : (b : Bool) → any f xs ≡ not (all (λ x. false) (keep f xs)) → (b || any f xs) ≡ not (all (λ x. false) (cond b (x ∷ keep f xs) (keep f xs)))
      go true h = refl
      go false h = h

pub earlier_up : (f : ℕ → Bool) (v from count : ℕ) → v ≤ from + count → earlier (keep f (up_from from count)) v ≡ keep f (up_from from (v - from))
unfolding earlier keep up_from
earlier_up f v from zero l = rw (sub-eq-zero_of_le (let h : v ≤ from = omega arith in h))
earlier_up f v from (suc count) l = cases (decided (ltb from v))
    (λ e. let d : v - from ≡ suc (v - suc from) = omega (arith, ltb-true from v e) in rw d (inside (f from) e (earlier_up f v (suc from) count (omega arith))))
    (λ e. let h = ltb-false from v e in
    let d : v - from ≡ 0 = omega arith in
    let d' : v - suc from ≡ 0 = omega arith in
    rw d (outside (f from) e (rw d' at (earlier_up f v (suc from) count (omega arith)))))
  where
    rest : List ℕ
    rest = keep f (up_from (suc from) count)

    inside : (b : Bool) → ltb from v ≡ true → earlier rest v ≡ keep f (up_from (suc from) (v - suc from)) →
        earlier (cond b (from ∷ rest) rest) v ≡ cond b (from ∷ keep f (up_from (suc from) (v - suc from))) (keep f (up_from (suc from) (v - suc from)))
    inside true e h = rw e (ap (λ l. from ∷ l) h)
    inside false e h = h

    outside : (b : Bool) → ltb from v ≡ false → earlier rest v ≡ [] → earlier (cond b (from ∷ rest) rest) v ≡ []
    outside true e h = rw e h
    outside false e h = h
