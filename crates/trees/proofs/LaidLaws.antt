-- Trees that lie in a plan in the fixed numbering: one place has at most one forest, and a plan is what lies in it. Assumes nothing.
use mathlib.Core.Path.{◌≡◌, refl, sym, ◌∙◌, ap}
use mathlib.Core.Bool.{true, false}
use mathlib.Core.List.{List, ◌++◌, append_assoc}
use mathlib.Core.Logic.{◌⊎◌, inl, inr}
use Prim.Native.Nat.{ℕ, suc, ◌+◌, ◌*◌, ◌/◌, ◌%◌, ◌≤◌, ◌<◌}
use native.Mathlib.Omega.{arith}
use lib.Dec.{eqb, ltb}
use lib.ListN.{length, get_or, drop, length-append}
use lib.Seq.{ext_get_or, get_or-drop, drop-drop}
use borrow.Author.Tests.{eqb-true, eqb-false, ltb-true, ltb-false}
use Rattle.lists.proofs.Logic.{cases, decided}
use Rattle.plan.specs.Plan.{size, kind_byte, parent}
use Rattle.plan.specs.Under.{Under, self, up}
use Rattle.plan.proofs.UnderLaws.{under-trans}
use Rattle.trees.specs.Tree.{Forest, none, tree, node_count}
use Rattle.trees.specs.Numbering.{written}

-- in q the trees lie from node n on, below u
pub data Laid (q : List ℕ) : Forest → ℕ → ℕ → Type 0 where
  nothing : {u n : ℕ} → Laid q none u n
  first : {k : ℕ} {b t : Forest} {u n : ℕ} → kind_byte q n ≡ k → parent q n ≡ u → Laid q b n (suc n) → Laid q t u (suc n + node_count b) → Laid q (tree k b t) u n

-- the trees below u end at e: there q ends, or the node there has a parent before u
abbrev pub Ends : List ℕ → ℕ → ℕ → Type 0
Ends q u e = (e ≡ size q) ⊎ (parent q e < u)

module _ (q : List ℕ) where
  -- what lies beside a tree ends what lies below it
  ends-below : (t : Forest) (u n e : ℕ) → u < n → Laid q t u e → Ends q u (e + node_count t) → Ends q n e
  unfolding node_count
  ends-below none u n e l nothing h = cases h (λ z. inl (omega arith)) (λ z. inr (let w : parent q e < u = rw (let y : e ≡ e + 0 = omega arith in y) z in omega arith))
  ends-below (tree k b t) u n e l (first x y _ _) h = inr (omega arith)

  pub laid-unique : (s t : Forest) (u n : ℕ) → u < n → Laid q s u n → Laid q t u n → n + node_count s ≤ size q → n + node_count t ≤ size q → Ends q u (n + node_count s) → Ends q u (n + node_count t) → s ≡ t
  unfolding node_count
  laid-unique none none u n l g h i j e f = refl
  laid-unique none (tree k b t) u n l g (first x y _ _) i j e f =
      absurd (cases e (λ z. omega arith) (λ z. let w : parent q n < u = rw (let y : n ≡ n + 0 = omega arith in y) z in omega arith))
  laid-unique (tree k b t) none u n l (first x y _ _) h i j e f =
      absurd (cases f (λ z. omega arith) (λ z. let w : parent q n < u = rw (let y : n ≡ n + 0 = omega arith in y) z in omega arith))
  laid-unique (tree k b t) (tree k' b' t') u n l (first x y g g') (first x' y' h h') i j e f =
      let a : n + suc (node_count b + node_count t) ≡ suc n + node_count b + node_count t = omega arith in
      let a' : n + suc (node_count b' + node_count t') ≡ suc n + node_count b' + node_count t' = omega arith in
      let e' : Ends q u (suc n + node_count b + node_count t) = rw a at e in
      let f' : Ends q u (suc n + node_count b' + node_count t') = rw a' at f in
      let same : b ≡ b' = laid-unique b b' n (suc n) (omega arith) g h (omega arith) (omega arith)
      (ends-below t u n (suc n + node_count b) l g' e') (ends-below t' u n (suc n + node_count b') l h' f') in
      let moved : suc n + node_count b' ≡ suc n + node_count b = ap (λ r. suc n + node_count r) (sym same) in
      let h'' : Laid q t' u (suc n + node_count b) = rw moved at h' in
      let f'' : Ends q u (suc n + node_count b + node_count t') = rw moved at f' in
      let other : t ≡ t' = laid-unique t t' u (suc n + node_count b) (omega arith) g' h'' (omega arith) (omega arith) e' f'' in
      cc

-- two bytes a node
pub written-length : (t : Forest) (u n : ℕ) → length (written t u n) ≡ 2 * node_count t
unfolding written node_count
written-length none u n = refl
written-length (tree k b t) u n =
    omega (arith, length-append (written b n (suc n)) (written t u (suc n + node_count b)), written-length b n (suc n), written-length t u (suc n + node_count b))

-- what is written lies there, and the rest behind it
module _ (q : List ℕ) where
  pub laid-written : (t : Forest) (u n : ℕ) (r : List ℕ) → drop (2 * n) q ≡ written t u n ++ r → Laid q t u n × (drop (2 * (n + node_count t)) q ≡ r)
  unfolding written node_count kind_byte parent
  laid-written none u n r e = (nothing, rw (let z : n + 0 ≡ n = omega arith in z) e)
  laid-written (tree k b t) u n r e =
      let k-at : get_or q (2 * n) 0 ≡ k = ap (λ i. get_or q i 0) (let z : 2 * n ≡ 2 * n + 0 = omega arith in z) ∙ sym (get_or-drop (2 * n) q 0 0) ∙ ap (λ (l : List ℕ). get_or l 0 0) e in
      let u-at : get_or q (2 * n + 1) 0 ≡ u = sym (get_or-drop (2 * n) q 1 0) ∙ ap (λ (l : List ℕ). get_or l 1 0) e in
      let two : 2 * suc n ≡ 2 * n + 2 = omega arith in
      let next : drop (2 * suc n) q ≡ written b n (suc n) ++ (written t u (suc n + node_count b) ++ r) =
      ap (λ i. drop i q) two ∙ sym (drop-drop 2 (2 * n) q) ∙ ap (λ (l : List ℕ). drop 2 l) e ∙ append_assoc (written b n (suc n)) (written t u (suc n + node_count b)) r in
      let below = laid-written b n (suc n) (written t u (suc n + node_count b) ++ r) next in
      let beside = laid-written t u (suc n + node_count b) r below.1 in
      (first k-at u-at below.0 beside.0, ap (λ i. drop (2 * i) q) (let z : n + suc (node_count b + node_count t) ≡ suc n + node_count b + node_count t = omega arith in z) ∙ beside.1)

-- two lists of bytes have the same two at node x
pub record Alike (p q : List ℕ) (x : ℕ) : Type 0 where
  pub kinds : kind_byte p x ≡ kind_byte q x
  pub parents : parent p x ≡ parent q x

module _ (p q : List ℕ) where
  -- two plans in which the same trees lie are alike there
  pub laid-alike : (t : Forest) (u n : ℕ) → Laid p t u n → Laid q t u n → (x : ℕ) → n ≤ x → x < n + node_count t → Alike p q x
  unfolding node_count
  laid-alike none u n g h x l m = absurd (omega arith)
  laid-alike (tree k b t) u n (first a c g g') (first a' c' h h') x l m = cases (decided (eqb x n))
      (λ z. let e : x ≡ n = eqb-true x n z in rw e (record { kinds = a ∙ sym a'; parents = c ∙ sym c' }))
      (λ z. let ne = eqb-false x n z in cases (decided (ltb x (suc n + node_count b)))
      (λ y. laid-alike b n (suc n) g h x (omega arith) (ltb-true x (suc n + node_count b) y))
      (λ y. laid-alike t u (suc n + node_count b) g' h' x (ltb-false x (suc n + node_count b) y) (omega arith)))

  pub alike_same : (m : ℕ) → length p ≡ 2 * m → length q ≡ 2 * m → ((x : ℕ) → x < m → Alike p q x) → p ≡ q
  unfolding kind_byte parent
  alike_same m e f h = ext_get_or 0 p q (e ∙ sym f) (λ i l. go i (h (i / 2) (omega arith)) (decided (eqb (i % 2) 0)))
    where
      go : (i : ℕ) → Alike p q (i / 2) → (eqb (i % 2) 0 ≡ true) ⊎ (eqb (i % 2) 0 ≡ false) → get_or p i 0 ≡ get_or q i 0
      go i a (inl z) = let s : i ≡ 2 * (i / 2) = omega (arith, eqb-true (i % 2) 0 z) in ap (λ j. get_or p j 0) s ∙ a.kinds ∙ ap (λ j. get_or q j 0) (sym s)
      go i a (inr z) = let s : i ≡ 2 * (i / 2) + 1 = omega (arith, eqb-false (i % 2) 0 z) in ap (λ j. get_or p j 0) s ∙ a.parents ∙ ap (λ j. get_or q j 0) (sym s)

-- where trees lie, parents stand before children, and each node's parent is the node before it or above that
pub record Stands (q : List ℕ) (u x : ℕ) : Type 0 where
  pub low : u ≤ parent q (suc x)
  pub high : parent q (suc x) < suc x
  pub under : Under q (parent q (suc x)) x

module _ (q : List ℕ) where
  laid-under : (t : Forest) (u n : ℕ) → Laid q t u (suc n) → Under q u n → Under q u (n + node_count t)
  unfolding node_count
  laid-under none u n h o = rw (let z : n + 0 ≡ n = omega arith in z) o
  laid-under (tree k b t) u n (first x y g h) o =
      let c : Under q u (suc n + node_count b) = under-trans q u (suc n) (suc n + node_count b) (up (omega arith) (self (sym y))) (laid-under b (suc n) (suc n) g (self refl)) in
      let next : Laid q t u (suc (suc n + node_count b)) = rw (let z : suc (suc n) + node_count b ≡ suc (suc n + node_count b) = omega arith in z) at h in
      rw (let z : n + suc (node_count b + node_count t) ≡ suc n + node_count b + node_count t = omega arith in z) (laid-under t u (suc n + node_count b) next c)

  pub laid-stands : (t : Forest) (u n : ℕ) → u ≤ n → Laid q t u (suc n) → Under q u n → (x : ℕ) → n ≤ x → x < n + node_count t → Stands q u x
  unfolding node_count
  laid-stands none u n s h o x l m = absurd (omega arith)
  laid-stands (tree k b t) u n s (first a c g h) o x l m = cases (decided (eqb x n))
      (λ z. let e : x ≡ n = eqb-true x n z in rw e (record { low = omega arith; high = omega arith; under = rw c o }))
      (λ z. let ne = eqb-false x n z in cases (decided (ltb x (suc n + node_count b)))
      (λ y. let r = laid-stands b (suc n) (suc n) (omega arith) g (self refl) x (omega arith) (ltb-true x (suc n + node_count b) y) in
      record { low = omega (arith, r.low); high = r.high; under = r.under })
      (λ y. laid-stands t u (suc n + node_count b) (omega arith) next above x (ltb-false x (suc n + node_count b) y) (omega arith)))
    where
      next : Laid q t u (suc (suc n + node_count b))
      next = rw (let z : suc (suc n) + node_count b ≡ suc (suc n + node_count b) = omega arith in z) at h

      above : Under q u (suc n + node_count b)
      above = under-trans q u (suc n) (suc n + node_count b) (up (omega arith) (self (sym c))) (laid-under b (suc n) (suc n) g (self refl))
