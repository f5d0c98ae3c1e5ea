-- The loops over a node's children, a turn at a time: what is left of the children says what all of them say. Assumes nothing.
use mathlib.Core.Path.{◌≡◌, sym, ap, ◌∙◌}
use mathlib.Core.Bool.{Bool, true, false}
use mathlib.Core.List.{List, [], ◌∷◌}
use Prim.Native.Nat.{ℕ, suc, pred, ◌+◌, ◌-◌, ◌≤◌, ◌<◌}
use native.Mathlib.Omega.{arith}
use lib.Dec.{eqb}
use lib.ListN.{get_or}
use borrow.Author.Tests.{eq-eqb, ne_eqb}
use Rattle.lists.specs.Seq.{all, any, keep, up_from}
use Rattle.lists.proofs.Keep.{keep-yes, keep-no, keep_out}
use Rattle.plan.specs.Plan.{size, parent, children_below, children}
use Rattle.central.specs.Scan.{besides}

-- u's children from c on, below n
unfoldable pub kids : List ℕ → ℕ → ℕ → ℕ → List ℕ
kids p u n c = keep (λ x. eqb (parent p x) u) (up_from c (n - c))

module _ (p : List ℕ) (u n : ℕ) where
  kids-below : children_below p n u ≡ kids p u n 1
  unfolding kids children_below
  kids-below = let e : pred n ≡ n - 1 = omega arith in rw e

  kids-all : n ≡ size p → children p u ≡ kids p u n 1
  unfolding children
  kids-all e = ap (λ k. children_below p k u) (sym e) ∙ kids-below

  module _ (c : ℕ) where
    kids-out : n ≤ c → kids p u n c ≡ []
    unfolding kids
    kids-out l = keep_out (λ x. eqb (parent p x) u) c n l

    module _ (l : c < n) where
      kids-no : (parent p c ≡ u → ⊥) → kids p u n c ≡ kids p u n (c + 1)
      unfolding kids
      kids-no e = keep-no (λ x. eqb (parent p x) u) c n l (ne_eqb (parent p c) u e)

      kids-yes : parent p c ≡ u → kids p u n c ≡ c ∷ kids p u n (c + 1)
      unfolding kids
      kids-yes e = keep-yes (λ x. eqb (parent p x) u) c n l (eq-eqb (parent p c) u e)

-- a test of every child
module _ (f : ℕ → Bool) (p : List ℕ) (u n : ℕ) where
  pub all_start : all f (children_below p n u) ≡ all f (kids p u n 1)
  all_start = rw (kids-below p u n)

  module _ (c : ℕ) where
    pub all_end : n ≤ c → all f (kids p u n c) ≡ true
    unfolding all
    all_end l = rw (kids-out p u n c l)

    module _ (l : c < n) where
      pub all-no : (parent p c ≡ u → ⊥) → all f (kids p u n c) ≡ all f (kids p u n (c + 1))
      all-no e = rw (kids-no p u n c l e)

      module _ (e : parent p c ≡ u) where
        pub all-stop : f c ≡ false → all f (kids p u n c) ≡ false
        unfolding all
        all-stop h = rw (kids-yes p u n c l e, h)

        pub all_more : f c ≡ true → all f (kids p u n c) ≡ all f (kids p u n (c + 1))
        unfolding all
        all_more h = rw (kids-yes p u n c l e, h)

-- a search for one, v left out
module _ (f : ℕ → Bool) (v : ℕ) (p : List ℕ) (u n : ℕ) where
  pub any-start : n ≡ size p → any f (besides v (children p u)) ≡ any f (besides v (kids p u n 1))
  any-start e = rw (kids-all p u n e)

  module _ (c : ℕ) where
    pub any-end : n ≤ c → any f (besides v (kids p u n c)) ≡ false
    unfolding any besides keep
    any-end l = rw (kids-out p u n c l)

    module _ (l : c < n) where
      pub any-no : (parent p c ≡ u → ⊥) → any f (besides v (kids p u n c)) ≡ any f (besides v (kids p u n (c + 1)))
      any-no e = rw (kids-no p u n c l e)

      module _ (e : parent p c ≡ u) where
        pub any-skip : c ≡ v → any f (besides v (kids p u n c)) ≡ any f (besides v (kids p u n (c + 1)))
        unfolding besides keep
        any-skip h = rw (kids-yes p u n c l e, eq-eqb c v h)

        pub any-stop : (c ≡ v → ⊥) → f c ≡ true → any f (besides v (kids p u n c)) ≡ true
        unfolding any besides keep
        any-stop h k = rw (kids-yes p u n c l e, ne_eqb c v h, k)

        pub any-more : (c ≡ v → ⊥) → f c ≡ false → any f (besides v (kids p u n c)) ≡ any f (besides v (kids p u n (c + 1)))
        unfolding any besides keep
        any-more h k = rw (kids-yes p u n c l e, ne_eqb c v h, k)

-- the child at a place, of which k are left
module _ (k : ℕ) (p : List ℕ) (u n : ℕ) where
  pub at-start : n ≡ size p → get_or (children p u) k 0 ≡ get_or (kids p u n 1) k 0
  at-start e = rw (kids-all p u n e)

  module _ (c : ℕ) where
    pub at-end : n ≤ c → get_or (kids p u n c) k 0 ≡ 0
    at-end l = rw (kids-out p u n c l)

    module _ (l : c < n) where
      pub at-no : (parent p c ≡ u → ⊥) → get_or (kids p u n c) k 0 ≡ get_or (kids p u n (c + 1)) k 0
      at-no e = rw (kids-no p u n c l e)

      module _ (e : parent p c ≡ u) where
        pub at-stop : k ≡ 0 → get_or (kids p u n c) k 0 ≡ c
        at-stop h = rw (kids-yes p u n c l e, h)

        pub at_more : (k ≡ 0 → ⊥) → get_or (kids p u n c) k 0 ≡ get_or (kids p u n (c + 1)) (k - 1) 0
        at_more h = let q : k ≡ suc (k - 1) = omega arith in ap (λ i. get_or (kids p u n c) i 0) q ∙ rw (kids-yes p u n c l e)
