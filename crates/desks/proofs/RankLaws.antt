-- A number's rank among those that pass a test, and the number of a rank (rule N3). Assumes nothing.
use mathlib.Core.Path.{◌≡◌, refl, sym, ◌∙◌, ap}
use mathlib.Core.Bool.{Bool, true, false, cond}
use mathlib.Core.List.{List, [], ◌∷◌, ◌++◌}
use Prim.Native.Nat.{ℕ, zero, suc, ◌+◌, ◌-◌, ◌≤◌, ◌<◌}
use native.Mathlib.Omega.{arith}
use lib.Dec.{ltb}
use lib.ListN.{length, get_or, length-append, get_or-append}
use lib.Seq.{get_or_at}
use borrow.Author.Tests.{ltb-true, ltb-false}
use Rattle.lists.specs.Seq.{keep, up_from}
use Rattle.lists.proofs.Logic.{cases, decided}
use Rattle.lists.proofs.Keep.{keep_append}
use Rattle.lists.proofs.Table.{up_suc}

module _ (f : ℕ → Bool) where
  -- how many below n pass
  abbrev pub rank : ℕ → ℕ
  rank n = length (keep f (up_from 0 n))

  -- the one of rank q among those below n
  abbrev pub of_rank : ℕ → ℕ → ℕ
  of_rank n q = get_or (keep f (up_from 0 n)) q 0

  keep-end : (n : ℕ) → keep f (up_from 0 (suc n)) ≡ keep f (up_from 0 n) ++ cond (f n) (n ∷ []) []
  unfolding keep
  keep-end n = let e : 0 + n ≡ n = omega arith in ap (keep f) (up_suc 0 n) ∙ keep_append f (up_from 0 n) ((0 + n) ∷ []) ∙ rw e

  pub rank-end : (n : ℕ) → rank (suc n) ≡ rank n + cond (f n) 1 0
  rank-end n = ap length (keep-end n) ∙ length-append (keep f (up_from 0 n)) (cond (f n) (n ∷ []) []) ∙ go (f n)
    where
      go : (b : Bool) → rank n + length (cond b (n ∷ []) []) ≡ rank n + cond b 1 0
      go true = refl
      go false = refl

  -- more numbers, no lower rank
  rank-more : (d n : ℕ) → rank d ≤ rank (n + d)
  rank-more d zero = let e : 0 + d ≡ d = omega arith in rw e (omega arith)
  rank-more d (suc n) = let e : suc n + d ≡ suc (n + d) = omega arith in rw (e, rank-end (n + d)) (let r = rank-more d n in omega arith)

  -- one that passes has a lower rank than any number above it
  pub rank_below : (d m : ℕ) → d < m → f d ≡ true → rank d < rank m
  rank_below d m l h =
      let a : rank (suc d) ≡ rank d + 1 = rank-end d ∙ rw h in
      let b = rank-more (suc d) (m - suc d) in
      let e : (m - suc d) + suc d ≡ m = omega arith in
      omega (arith, rw e at b)

  -- where all pass, each is its own rank; and what does not pass adds none
  pub rank-all : (n : ℕ) → ((d : ℕ) → d < n → f d ≡ true) → rank n ≡ n
  unfolding keep up_from
  rank-all zero h = refl
  rank-all (suc n) h = rank-end n ∙ rw (h n (omega arith)) (let r = rank-all n (λ d l. h d (omega arith)) in omega arith)

  pub rank-none : (n k : ℕ) → ((d : ℕ) → n ≤ d → f d ≡ false) → rank (k + n) ≡ rank n
  rank-none n zero h = let e : 0 + n ≡ n = omega arith in rw e
  rank-none n (suc k) h =
      let e : suc k + n ≡ suc (k + n) = omega arith in
      rw e (rank-end (k + n) ∙ rw (h (k + n) (omega arith)) (let r = rank-none n k h in omega arith))

  pub record Ranked (n q : ℕ) : Type 0 where
    pub passes : f (of_rank n q) ≡ true
    pub within : of_rank n q < n
    pub is : rank (of_rank n q) ≡ q

  pub ranked : (n q : ℕ) → q < rank n → Ranked n q
  unfolding keep up_from
  ranked zero q l = absurd (omega arith)
  ranked (suc n) q l = cases (decided (ltb q (rank n)))
      (λ h. let r = ranked n q (ltb-true q (rank n) h) in
      let g : of_rank (suc n) q ≡ of_rank n q =
      ap (λ (l : List ℕ). get_or l q 0) (keep-end n) ∙ get_or-append (keep f (up_from 0 n)) (cond (f n) (n ∷ []) []) 0 q (ltb-true q (rank n) h) in
      let w = r.within in
      record { passes = rw g r.passes; within = rw g (omega arith); is = rw g r.is })
      (λ h. last (f n) refl (ltb-false q (rank n) h))
    where
      last : (b : Bool) → f n ≡ b → rank n ≤ q → Ranked (suc n) q
      last true e o =
          let c : q ≡ rank n = let z = rank-end n in let y : ◌≡◌ {A = ℕ} (cond (f n) 1 0) 1 = rw e in omega arith in
          let k : keep f (up_from 0 (suc n)) ≡ keep f (up_from 0 n) ++ (n ∷ []) = keep-end n ∙ rw e in
          let g : of_rank (suc n) q ≡ n = ap (λ (l : List ℕ). get_or l q 0) k ∙ get_or_at (keep f (up_from 0 n)) n [] 0 q (sym c) in
          record { passes = rw g e; within = rw g (omega arith); is = rw g (sym c) }
      last false e o = absurd (let z = rank-end n in let y : ◌≡◌ {A = ℕ} (cond (f n) 1 0) 0 = rw e in omega arith)
