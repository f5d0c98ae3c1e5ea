-- The tree of a plan without a bound on its levels, and that it has as many nodes as the plan. Assumes nothing.
use mathlib.Core.Path.{◌≡◌, refl, sym, ◌∙◌, ap}
use mathlib.Core.List.{List, [], ◌∷◌}
use Prim.Native.Nat.{ℕ, zero, suc, ◌+◌, ◌-◌, ◌≤◌, ◌<◌}
use native.Mathlib.Omega.{arith}
use lib.Dec.{eqb}
use borrow.Author.Tests.{eqb-true, eqb-false, eq-eqb}
use Rattle.lists.specs.Member.{In, here, there}
use Rattle.lists.proofs.Logic.{cases, decided}
use Rattle.plan.specs.Plan.{size, kind_byte, parent, children}
use Rattle.plan.specs.Check.{Ordered}
use Rattle.plan.proofs.PlanLaws.{child-of}
use Rattle.links.specs.Links.{children_from}
use Rattle.links.proofs.LinkLaws.{from_end, from-yes, from-skip}
use Rattle.trees.specs.Tree.{Forest, trees_of, below_within, trees_below, tree_of, node_count}
use Rattle.trees.proofs.OrderLaws.{from-behind}

pub trees-same : (kind : ℕ → ℕ) (a b : ℕ → Forest) (cs : List ℕ) → ((c : ℕ) → In c cs → a c ≡ b c) → trees_of kind a cs ≡ trees_of kind b cs
unfolding trees_of
trees-same kind a b [] h = refl
trees-same kind a b (c ∷ cs) h = rw (h c (here refl), trees-same kind a b cs (λ x i. h x (there i)))

-- each of the trees has fewer nodes below its top than there are in all
pub count-in : (kind : ℕ → ℕ) (below : ℕ → Forest) (cs : List ℕ) {c : ℕ} → In c cs → node_count (below c) < node_count (trees_of kind below cs)
unfolding trees_of node_count
count-in kind below [] {c = c} x' = elim x' [ ]
count-in kind below (x ∷ cs) (here q) = omega (arith, ap (λ y. node_count (below y)) q)
count-in kind below (x ∷ cs) (there i) = omega (arith, count-in kind below cs i)

-- the sum of f below n
total : (ℕ → ℕ) → ℕ → ℕ
total f zero = 0
total f (suc n) = total f n + f n

total-same : (f g : ℕ → ℕ) (n : ℕ) → ((x : ℕ) → x < n → g x ≡ f x) → total g n ≡ total f n
unfolding total
total-same f g zero h = refl
total-same f g (suc n) h = rw (total-same f g n (λ x l. h x (omega arith)), h n (omega arith))

total-one : (n : ℕ) → total (λ x. 1) n ≡ n
unfolding total
total-one zero = refl
total-one (suc n) = omega (arith, total-one n)

-- one of them is more
total-spread : (f g : ℕ → ℕ) (u a n : ℕ) → u < n → ((x : ℕ) → x < n → (x ≡ u → ⊥) → g x ≡ f x) → g u ≡ f u + a → total g n ≡ total f n + a
unfolding total
total-spread f g u a zero l h e = absurd (omega arith)
total-spread f g u a (suc n) l h e = cases (decided (eqb n u))
    (λ z. let q = eqb-true n u z in
    let r = total-same f g n (λ x m. h x (omega arith) (λ y. omega arith)) in
    let e' : g n ≡ f n + a = rw q e in
    omega arith)
    (λ z. let q = eqb-false n u z in
    let r = total-spread f g u a n (omega arith) (λ x m. h x (omega arith)) e in
    let s = h n (omega arith) q in
    omega arith)

module _ (p : List ℕ) (ordered : Ordered p) where
  -- more levels than nodes behind v change nothing
  within_same : (f g v : ℕ) → v < size p → size p ≤ f + v → size p ≤ g + v → below_within f p v ≡ below_within g p v
  unfolding below_within
  within_same zero g v l i j = absurd (omega arith)
  within_same (suc f) zero v l i j = absurd (omega arith)
  within_same (suc f) (suc g) v l i j = trees-same (kind_byte p) (below_within f p) (below_within g p) (children p v)
      (λ c n. let h = child-of p v n in
      let b = ordered.below c h.low h.high in
      within_same f g c h.high (omega (arith, h.of)) (omega (arith, h.of)))

  pub trees-step : (v : ℕ) → v < size p → trees_below p v ≡ trees_of (kind_byte p) (trees_below p) (children p v)
  unfolding trees_below below_within
  trees-step v l = within_same (size p) (suc (size p)) v l (omega arith) (omega arith)

  -- x and the nodes below it, where w is the first child that is looked at
  part : ℕ → ℕ → ℕ
  part w x = suc (node_count (trees_of (kind_byte p) (trees_below p) (children_from p x w)))

  part_end : (x : ℕ) → part (size p) x ≡ 1
  unfolding trees_of node_count part
  part_end x = rw (from_end p x)

  part-own : (y : ℕ) → y < size p → part (suc y) y ≡ suc (node_count (trees_below p y))
  unfolding part
  part-own y l = rw (trees-step y l, from-behind p ordered y l)

  part-other : (y x : ℕ) → y < size p → (x ≡ parent p y → ⊥) → part y x ≡ part (suc y) x
  unfolding part
  part-other y x l n = rw (from-skip p x 1 y (suc y) (omega arith) (omega arith) l (λ c i j e. n (sym e ∙ same c i j)))
    where
      same : (c : ℕ) → y ≤ c → c < suc y → parent p c ≡ parent p y
      same c i j = let z : c ≡ y = omega arith in rw z

  part-parent : (y : ℕ) → y < size p → part y (parent p y) ≡ part (suc y) (parent p y) + suc (node_count (trees_below p y))
  unfolding trees_of node_count part
  part-parent y l =
      let s : suc y ≡ y + 1 = omega arith in
      rw (from-yes p (parent p y) y l (eq-eqb (parent p y) (parent p y) refl), s) (omega arith)

  parts_all : (d w : ℕ) → d + w ≡ size p → 0 < w → total (part w) w ≡ size p
  unfolding total
  parts_all zero w e l = let z : w ≡ size p = omega arith in rw z (total-same (λ x. 1) (part (size p)) (size p) (λ x m. part_end x) ∙ total-one (size p))
  parts_all (suc d) w e l =
      let later = parts_all d (suc w) (omega arith) (omega arith) in
      let own = part-own w (omega arith) in
      let b = ordered.below w l (omega arith) in
      let spread = total-spread (part (suc w)) (part w) (parent p w) (suc (node_count (trees_below p w))) w b (λ x m n. part-other w x (omega arith) n) (part-parent w (omega arith)) in
      omega arith

  pub count-all : node_count (tree_of p) ≡ size p
  unfolding tree_of node_count total
  count-all =
      let s = ordered.some in
      let all = parts_all (size p - 1) 1 (omega arith) (omega arith) in
      let own = part-own 0 ordered.some in
      omega arith
