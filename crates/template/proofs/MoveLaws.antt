-- The same trees at two places of two plans: numbers move along. Assumes nothing.
use mathlib.Core.Path.{◌≡◌, sym, ◌∙◌, ap}
use mathlib.Core.List.{List}
use Prim.Native.Nat.{ℕ, zero, suc, ◌+◌, ◌*◌, ◌≤◌, ◌<◌}
use native.Mathlib.Omega.{arith}
use lib.Dec.{eqb, ltb}
use borrow.Author.Tests.{eqb-true, eqb-false, ltb-true, ltb-false, lt-ltb, le-ltb}
use Rattle.lists.proofs.Logic.{cases, decided}
use Rattle.trees.specs.Tree.{Forest, none, tree, node_count}
use Rattle.trees.proofs.LaidLaws.{Laid, nothing, first}
use Rattle.template.specs.Repeat.{beside, times, moved}
use Rattle.template.specs.Claim.{Moves}

pub moved-low : (x s v : ℕ) → v < x → moved x s v ≡ v
unfolding moved
moved-low x s v l = rw (lt-ltb v x l)

moved-high : (x s v : ℕ) → x ≤ v → moved x s v ≡ v + s
unfolding moved
moved-high x s v l = rw (le-ltb v x l)

module _ (p q : List ℕ) (x s : ℕ) where
  pub laid-moved : (t : Forest) (u n : ℕ) → x ≤ n → Laid p t u n → Laid q t (moved x s u) (n + s) → (v : ℕ) → n ≤ v → v < n + node_count t → Moves p q x s v
  unfolding node_count
  laid-moved none u n i g h v l m = absurd (omega arith)
  laid-moved (tree k b t) u n i (first a c g g') (first a' c' h h') v l m = cases (decided (eqb v n))
      (λ z. let e : v ≡ n = eqb-true v n z in rw e (record { kinds = a' ∙ sym a; parents = c' ∙ ap (moved x s) (sym c) }))
      (λ z. let ne = eqb-false v n z in cases (decided (ltb v (suc n + node_count b)))
      (λ y. laid-moved b n (suc n) (omega arith) g below v (omega arith) (ltb-true v (suc n + node_count b) y))
      (λ y. laid-moved t u (suc n + node_count b) (omega arith) g' next v (ltb-false v (suc n + node_count b) y) (omega arith)))
    where
      below : Laid q b (moved x s n) (suc n + s)
      below = rw (moved-high x s n i, (let z : suc n + s ≡ suc (n + s) = omega arith in z)) h

      next : Laid q t (moved x s u) (suc n + node_count b + s)
      next = rw (let z : suc n + node_count b + s ≡ suc (n + s) + node_count b = omega arith in z) h'

module _ (q : List ℕ) where
  laid_beside : (s t : Forest) (u n : ℕ) → Laid q (beside s t) u n → Laid q s u n × Laid q t u (n + node_count s)
  unfolding beside node_count
  laid_beside none t u n h = (nothing, rw (let z : n + 0 ≡ n = omega arith in z) h)
  laid_beside (tree k b s) t u n (first a c g h) =
      let r = laid_beside s t u (suc n + node_count b) h in
      (first a c g r.0, rw (let z : n + suc (node_count b + node_count s) ≡ suc n + node_count b + node_count s = omega arith in z) r.1)

  -- each of the times
  pub laid-times : (t : Forest) (u n i c : ℕ) → c ≤ i → Laid q (times (suc i) t) u n → Laid q t u (n + c * node_count t)
  unfolding times
  laid-times t u n i zero l h = rw (let z : n + 0 * node_count t ≡ n = omega arith in z) (laid_beside t (times i t) u n h).0
  laid-times t u n zero (suc c) l h = absurd (omega arith)
  laid-times t u n (suc i) (suc c) l h =
      let z : n + suc c * node_count t ≡ n + node_count t + c * node_count t = omega arith in
      rw z (laid-times t u (n + node_count t) i c (omega arith) (laid_beside t (times (suc i) t) u n h).1)
