-- A plan in the fixed numbering: the subtrees of a node's children stand one behind another, and a subtree is so many numbers. Assumes nothing.
use mathlib.Core.Path.{◌≡◌, refl, sym, ap}
use mathlib.Core.Bool.{true}
use mathlib.Core.List.{List, [], ◌∷◌}
use mathlib.Core.Logic.{◌⊎◌, inl, inr, ◌↔◌}
use Prim.Native.Nat.{ℕ, zero, suc, ◌+◌, ◌≤◌, ◌<◌}
use native.Mathlib.Omega.{arith}
use lib.Dec.{eqb, ltb, leb}
use borrow.Author.Tests.{eqb-true, eqb-false, ltb-true, ltb-false, leb-true, leb-false}
use Rattle.lists.specs.Member.{In, here, there, Rising, next}
use Rattle.lists.proofs.Logic.{cases, decided}
use Rattle.lists.proofs.Members.{rising-above}
use Rattle.plan.specs.Plan.{size, kind_byte, parent, children}
use Rattle.plan.specs.Check.{Accepted}
use Rattle.plan.specs.Under.{Under, self, up}
use Rattle.plan.proofs.PlanLaws.{child-of, child-in, rising-children}
use Rattle.plan.proofs.AcceptedLaws.{accepted-ordered}
use Rattle.plan.proofs.UnderLaws.{under-below, under_low}
use Rattle.trees.specs.Tree.{Forest, trees_of, trees_below, node_count}
use Rattle.trees.specs.Numbering.{in_preorder}
use Rattle.trees.proofs.AboveLaws.{preorder-told, preorder-exact}
use Rattle.trees.proofs.LaidLaws.{Laid, first, laid-stands}
use Rattle.trees.proofs.OrderLaws.{Below, below_all}
use Rattle.trees.proofs.TreeLaws.{trees-step}

module _ (p : List ℕ) where
  -- the trees of the nodes cs
  abbrev pub trees : List ℕ → Forest
  trees cs = trees_of (kind_byte p) (trees_below p) cs

  -- nodes whose subtrees stand one behind another, from n on
  pub data Run : ℕ → List ℕ → Type 0 where
    over : {n : ℕ} → Run n []
    on : {n c : ℕ} {cs : List ℕ} → c ≡ n → Run (suc n + node_count (trees_below p n)) cs → Run n (c ∷ cs)

module _ (p : List ℕ) (ok : Accepted p) (ordered : in_preorder p ≡ true) where
  pub below : (v : ℕ) → v < size p → Below p v (suc v) (trees_below p v)
  unfolding trees_below
  below v l = below_all p (accepted-ordered p ok) (preorder-told p (accepted-ordered p ok) ordered) (size p) v (omega arith) l

  -- the children of v from n on are cs: each of them is behind n and has v for its parent, and each such node is one of them
  record Rest (v n : ℕ) (cs : List ℕ) : Type 0 where
    children : (c : ℕ) → In c cs → (n ≤ c) × (c < size p) × (parent p c ≡ v)
    all : (c : ℕ) → n ≤ c → c < size p → parent p c ≡ v → In c cs

  children-run : (v n : ℕ) {low : ℕ} (cs : List ℕ) → v < n → Rising low cs → Rest v n cs → n + node_count (trees p cs) ≤ size p → Laid p (trees p cs) v n → Run p n cs
  unfolding trees_of node_count
  children-run v n [] l rise r room h = over
  children-run v n (c ∷ cs) l (next m rise) r room (first a e g h) =
      let i = r.all n (omega arith) (omega arith) e in
      let own : c ≡ n = least i in
      let b = below n (omega arith) in
      let step : Laid p (trees p cs) v (suc n + node_count (trees_below p n)) = rw own at h in
      on own (children-run v (suc n + node_count (trees_below p n)) cs (omega arith) rise (record {
        children = λ d j. let k = r.children d (there j) in (behind own b d j k, k.1, k.2);
        all = λ d i' j k. other own d (r.all d (omega arith) j k) i';
      }) (let same : node_count (trees_below p c) ≡ node_count (trees_below p n) = ap (λ x. node_count (trees_below p x)) own in omega arith) step)
    where
      least : In n (c ∷ cs) → c ≡ n
      least (here q) = sym q
      least (there i) = let a = rising-above rise i in let b = (r.children c (here refl)).0 in absurd (omega arith)

      behind : c ≡ n → Below p n (suc n) (trees_below p n) → (d : ℕ) → In d cs → (n ≤ d) × (d < size p) × (parent p d ≡ v) → suc n + node_count (trees_below p n) ≤ d
      behind own b d j k = cases (decided (ltb d (suc n + node_count (trees_below p n))))
          (λ z. let a = rising-above rise j in let s = b.stays d (omega (arith, own)) (ltb-true d _ z) in absurd (omega (arith, k.2)))
          (λ z. ltb-false d _ z)

      other : c ≡ n → (d : ℕ) → In d (c ∷ cs) → suc n + node_count (trees_below p n) ≤ d → In d cs
      other own d (here q) l = absurd (omega (arith, q, own))
      other own d (there i) l = i

  pub own-run : (v : ℕ) → v < size p → Run p (suc v) (children p v)
  own-run v l =
      let b : Below p v (suc v) (trees p (children p v)) = rw (trees-step p (accepted-ordered p ok) v l) at (below v l) in
      children-run v (suc v) (children p v) (omega arith) (rising-children p v) (record {
        children = λ c i. let h = child-of p v i in let a = ok.below c h.low h.high in (omega (arith, h.of), h.high, h.of);
        all = λ c i j k. child-in p v (record { low = omega arith; high = j; of = k });
      }) b.within b.laid

  -- m's subtree in numbers
  module _ (m : ℕ) (node : m < size p) where
    abbrev end : ℕ
    end = suc m + node_count (trees_below p m)

    block-told : (v : ℕ) → v < size p → Under p m v → v ≤ m + node_count (trees_below p m)
    block-told v l u = cases (decided (leb v (m + node_count (trees_below p m)))) (λ z. leb-true v (m + node_count (trees_below p m)) z) (λ z. absurd (beyond (leb-false v (m + node_count (trees_below p m)) z) (below m node).out))
      where
        beyond : m + node_count (trees_below p m) < v → (end ≡ size p) ⊎ ((0 < m) × Under p (parent p end) (parent p m)) → ⊥
        beyond g (inl e) = omega arith
        beyond g (inr h) =
            let up = ok.below m h.0 node in
            let e = ok.below end (omega arith) (omega arith) in
            let t : Under p m end = (preorder-exact p (accepted-ordered p ok)).0 ordered m end v (omega arith) (omega arith) l u in
            let low = under_low p ok m (parent p end) (omega arith) (under-below p m end (λ z. omega arith) t).1 in
            let high = under_low p ok (parent p end) (parent p m) (omega arith) h.1 in
            omega arith

    block-by : (f v : ℕ) → v < f → m ≤ v → v ≤ m + node_count (trees_below p m) → Under p m v
    block-by zero v i l k = absurd (omega arith)
    block-by (suc f) zero i l k = let z : m ≡ 0 = omega arith in self z
    block-by (suc f) (suc x) i l k = cases (decided (eqb m (suc x))) (λ z. self (eqb-true m (suc x) z))
        (λ z. let n = eqb-false m (suc x) z in
        let s = laid-stands p (trees_below p m) m m (omega arith) (below m node).laid (self refl) x (omega arith) (omega arith) in
        up {w = suc x} (omega arith) (block-by f (parent p (suc x)) (omega (arith, s.high)) s.low (omega (arith, s.high))))

    pub own_block : (v : ℕ) → v < size p → Under p m v ↔ ((m ≤ v) × (v ≤ m + node_count (trees_below p m)))
    own_block v l = (λ u. (under_low p ok m v l u, block-told v l u), λ h. block-by (suc v) v (omega arith) h.0 h.1)
