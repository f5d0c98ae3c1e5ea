-- Subtrees: their order, and that those of two children are apart. Assumes nothing.
use mathlib.Core.Path.{◌≡◌, refl, sym, subst}
use mathlib.Core.List.{List}
use mathlib.Core.Logic.{◌⊎◌, inl, inr}
use Prim.Native.Nat.{ℕ, zero, suc, ◌≤◌, ◌<◌}
use lib.Dec.{eqb}
use borrow.Author.Tests.{eqb-true, eqb-false}
use native.Mathlib.Omega.{arith}
use Rattle.lists.specs.Member.{In}
use Rattle.lists.proofs.Logic.{cases, decided}
use Rattle.plan.specs.Plan.{size, parent, children}
use Rattle.plan.specs.Check.{Ordered, Accepted}
use Rattle.plan.specs.Under.{Under, self, up, Below}
use Rattle.plan.proofs.PlanLaws.{child-of, child-in}
use Rattle.plan.proofs.AcceptedLaws.{accepted-ordered, child-between}

pub under-trans : (p : List ℕ) (u v w : ℕ) → Under p u v → Under p v w → Under p u w
under-trans p u v w h (self e) = subst (Under p u) e h
under-trans p u v w h (up l b) = up l (under-trans p u v (parent p w) h b)

child-below : (p : List ℕ) (v c : ℕ) → In c (children p v) → Below p v c
child-below p v c i = let h = child-of p v i in (h.low, self (sym h.of))

pub child-under : (p : List ℕ) (v c : ℕ) → In c (children p v) → Under p v c
child-under p v c i = let h = child-below p v c i in up h.0 h.1

pub under-child : (p : List ℕ) (v c w : ℕ) → In c (children p v) → Under p c w → Under p v w
under-child p v c w i h = under-trans p v c w (child-under p v c i) h

-- of two nodes above one node, one is above the other
pub linear : (p : List ℕ) (c d w : ℕ) → Under p c w → Under p d w → Under p c d ⊎ Under p d c
linear p c d w (self e) h = inr (subst (Under p d) (sym e) h)
linear p c d w (up z b) (self e) = inl (subst (Under p c) (sym e) (up z b))
linear p c d w (up z b) (up y h) = linear p c d (parent p w) b h

-- v's subtree without v
pub under-below : (p : List ℕ) (v w : ℕ) → (v ≡ w → ⊥) → Under p v w → Below p v w
under-below p v w ne (self e) = absurd (ne e)
under-below p v w ne (up l b) = (l, b)

pub ordered-low : (p : List ℕ) → Ordered p → (v w : ℕ) → w < size p → Under p v w → v ≤ w
ordered-low p ordered v w l (self e) = omega arith
ordered-low p ordered v w l (up z b) = let lt = ordered.below w z l in let r = ordered-low p ordered v (parent p w) (omega arith) b in omega arith

module _ (p : List ℕ) (ok : Accepted p) where
  pub under_low : (v w : ℕ) → w < size p → Under p v w → v ≤ w
  under_low = ordered-low p (accepted-ordered p ok)

  beside : (v c d : ℕ) → In c (children p v) → In d (children p v) → Under p c d → c ≡ d
  beside v c d i j (self e) = e
  beside v c d i j (up z b) =
      let q = (child-of p v j).of in
      let r = child-between p ok v i in
      let low = under_low c (parent p d) (omega arith) b in
      absurd (omega arith)

  pub apart : (v c d : ℕ) → In c (children p v) → In d (children p v) → (c ≡ d → ⊥) → (w : ℕ) → Under p c w → Under p d w → ⊥
  apart v c d i j ne w x y = cases (linear p c d w x y) (λ u. ne (beside v c d i j u)) (λ u. ne (sym (beside v d c j i u)))

  -- from v down to w goes through a child of v
  pub through : (v w : ℕ) → w < size p → Below p v w → (d : ℕ) × In d (children p v) × Under p d w
  through v w l h = step v w l (up h.0 h.1) (λ e. low h.0 h.1 e)
    where
      low : 0 < w → Under p v (parent p w) → v ≡ w → ⊥
      low z b e = let lt = ok.below w z l in let r = under_low v (parent p w) (omega arith) b in omega arith

      step : (v w : ℕ) → w < size p → Under p v w → (v ≡ w → ⊥) → (d : ℕ) × In d (children p v) × Under p d w
      step v w l (self e) ne = absurd (ne e)
      step v w l (up z b) ne =
          let lt = ok.below w z l in
          cases (decided (eqb v (parent p w)))
          (λ e. (w, child-in p v (record { low = z; high = l; of = sym (eqb-true v (parent p w) e) }), self refl))
          (λ e. let r = step v (parent p w) (omega arith) b (eqb-false v (parent p w) e) in (r.0, r.1, up z r.2))

  pub under-root : (n w : ℕ) → w < n → w < size p → Under p 0 w
  under-root zero w l s = absurd (omega arith)
  under-root (suc n) w l s = cases (decided (eqb w 0)) (λ e. self (sym (eqb-true w 0 e)))
      (λ e. let ne : w ≡ 0 → ⊥ = eqb-false w 0 e in
      let lt = ok.below w (omega arith) s in
      up (omega arith) (under-root n (parent p w) (omega arith) (omega arith)))

  -- whether w is in v's subtree
  pub under? : (n v w : ℕ) → w < n → w < size p → Under p v w ⊎ (Under p v w → ⊥)
  under? zero v w l s = absurd (omega arith)
  under? (suc n) v w l s = cases (decided (eqb v w)) (λ e. inl (self (eqb-true v w e)))
      (λ e. let no : v ≡ w → ⊥ = eqb-false v w e in
      cases (decided (eqb w 0))
      (λ z. inr (λ b. absurd (top (eqb-true w 0 z) (under-below p v w no b).0)))
      (λ z. let nz : w ≡ 0 → ⊥ = eqb-false w 0 z in
      let lt = ok.below w (omega arith) s in
      cases (under? n v (parent p w) (omega arith) (omega arith)) (λ h. inl (up (omega arith) h)) (λ h. inr (λ b. h (under-below p v w no b).1))))
    where
      top : w ≡ 0 → 0 < w → ⊥
      top e l = omega arith
