-- A task's class depends on its own mark and those of the blocks above it. Assumes nothing.
use mathlib.Core.Path.{◌≡◌, refl, sym, ◌∙◌, ap, ap₂}
use mathlib.Core.Bool.{Bool, true, false, cond}
use mathlib.Core.List.{List, [], ◌∷◌}
use mathlib.Core.Logic.{◌⊎◌, inl, inr}
use Prim.Native.Nat.{ℕ, zero, suc, ◌<◌}
use lib.Dec.{eqb}
use lib.ListN.{get_or}
use borrow.Author.Tests.{eqb-true, eqb-false}
use native.Mathlib.Omega.{arith}
use Rattle.lists.specs.Member.{In, here, there}
use Rattle.lists.proofs.Logic.{cases, decided}
use Rattle.lists.proofs.Members.{in-none, all_same, any_same}
use Rattle.plan.specs.Plan.{is_kind, kind, parent, size}
use Rattle.plan.specs.declared.kinds.Kind.TheVariants.{Task as task}
use Rattle.plan.specs.Check.{Accepted}
use Rattle.plan.specs.Under.{Under, self, up}
use Rattle.plan.proofs.KindLaws.{same_kind}
use Rattle.retention.specs.Record.{above_within, nodes_above, fell, counts_above, counts_as, class}
use Rattle.reach.specs.Claim.{ClassesReach}

-- w is in the subtree of every node above it
above-under : (p : List ℕ) (n w u : ℕ) → In u (above_within n p w) → Under p u w
unfolding above_within
above-under p zero w u i = absurd (in-none i)
above-under p (suc n) w u i = go (eqb w 0) refl i (λ j. above-under p n (parent p w) u j)
  where
    go : (b : Bool) → eqb w 0 ≡ b → In u (cond b [] (parent p w ∷ above_within n p (parent p w))) →
        (In u (above_within n p (parent p w)) → Under p u (parent p w)) → Under p u w
    go true q j k = absurd (in-none j)
    go false q (here e) k = let ne : w ≡ 0 → ⊥ = eqb-false w 0 q in let l : 0 < w = omega arith in up l (self e)
    go false q (there j) k = let ne : w ≡ 0 → ⊥ = eqb-false w 0 q in let l : 0 < w = omega arith in up l (k j)

module _ (p m n : List ℕ) (w : ℕ) (same : (u : ℕ) → Under p u w → get_or m u 0 ≡ get_or n u 0) where
  above_same : counts_above p m w ≡ counts_above p n w
  unfolding counts_above nodes_above
  above_same = ap₂ (λ x y. cond x 5 (cond y 3 2))
      (any_same (λ u. fell (get_or m u 0)) (λ u. fell (get_or n u 0)) (above_within w p w) (λ u i. ap fell (same u (above-under p w w u i))))
      (all_same (λ u. eqb (get_or m u 0) 3) (λ u. eqb (get_or n u 0) 3) (above_within w p w) (λ u i. ap (λ x. eqb x 3) (same u (above-under p w w u i))))

  class_same : (tab : List ℕ) → class p tab m w ≡ class p tab n w
  unfolding class counts_as
  class_same tab = rw (same w (self refl), above_same)

module _ (p : List ℕ) (ok : Accepted p) (m n : List ℕ) where
  -- all marks on the way up are the same, or one is not
  way_up : (k w : ℕ) → w < k → w < size p → ((u : ℕ) → Under p u w → get_or m u 0 ≡ get_or n u 0) ⊎ ((u : ℕ) × Under p u w × (get_or m u 0 ≡ get_or n u 0 → ⊥))
  way_up zero w l s = absurd (omega arith)
  way_up (suc k) w l s = cases (decided (eqb (get_or m w 0) (get_or n w 0)))
      (λ q. let e = eqb-true (get_or m w 0) (get_or n w 0) q in
      cases (decided (eqb w 0))
      (λ z. inl (λ u x. only (eqb-true w 0 z) e u x))
      (λ z. let ne : w ≡ 0 → ⊥ = eqb-false w 0 z in
      let low = ok.below w (omega arith) s in
      cases (way_up k (parent p w) (omega arith) (omega arith))
      (λ f. inl (λ u x. one e f u x))
      (λ r. inr (r.0, up (omega arith) r.1, r.2))))
      (λ q. inr (w, self refl, eqb-false (get_or m w 0) (get_or n w 0) q))
    where
      only : w ≡ 0 → get_or m w 0 ≡ get_or n w 0 → (u : ℕ) → Under p u w → get_or m u 0 ≡ get_or n u 0
      only z e u (self q) = rw q e
      only z e u (up l b) = absurd (omega arith)

      one : get_or m w 0 ≡ get_or n w 0 → ((u : ℕ) → Under p u (parent p w) → get_or m u 0 ≡ get_or n u 0) → (u : ℕ) → Under p u w → get_or m u 0 ≡ get_or n u 0
      one e f u (self q) = rw q e
      one e f u (up l b) = f u b

pub classes-reach : ClassesReach
classes-reach p ok tab m n w s = cases (decided (is_kind task (kind p w)))
    (λ k. cases (way_up p ok m n (suc w) w (omega arith) s) (λ f. inl (class_same p m n w f tab)) (λ r. inr (same_kind task (kind p w) k, r)))
    (λ k. inl (none k m ∙ sym (none k n)))
  where
    none : is_kind task (kind p w) ≡ false → (q : List ℕ) → class p tab q w ≡ 0
    none k q = unfold class in rw k
