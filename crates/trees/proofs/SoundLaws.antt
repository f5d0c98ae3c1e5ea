-- The limits of a plan as limits of its tree: a plan within the limits has such a tree, and an ordered plan that has one is within the limits.
-- Assumes nothing.
use mathlib.Core.Path.{◌≡◌, refl, sym, ◌∙◌, ap}
use mathlib.Core.Bool.{true}
use mathlib.Core.List.{List, [], ◌∷◌}
use mathlib.Core.Logic.{◌⊎◌, inl}
use Prim.Native.Nat.{ℕ, zero, suc, ◌+◌, ◌*◌, ◌≤◌, ◌<◌}
use native.Mathlib.Omega.{arith}
use lib.ListN.{length}
use Rattle.lists.proofs.Logic.{cases}
use Rattle.lists.specs.Member.{In, here, there}
use Rattle.plan.specs.Plan.{kind_of, size, kind_byte, kind, parent, children, depth}
use Rattle.plan.specs.Check.{fits, Ordered, Accepted}
use Rattle.plan.proofs.PlanLaws.{child-of, child-in, depth-root, depth-child}
use Rattle.plan.proofs.AcceptedLaws.{accepted-ordered}
use Rattle.plan.proofs.CheckLaws.{fits-none, fits-pair, fits-some, fits-most, fits_by}
use Rattle.plan.proofs.Exact.{none_left}
use Rattle.trees.specs.Tree.{Forest, none, tree, trees_of, trees_below, tree_of}
use Rattle.trees.proofs.TreeLaws.{trees-step}

-- how many trees stand side by side
unfoldable pub breadth : Forest → ℕ
breadth none = 0
breadth (tree k b t) = suc (breadth t)

-- trees whose tops have depth d are within the limits of kinds, numbers of children and depth
pub data Sound : ℕ → Forest → Type 0 where
  bare : {d : ℕ} → Sound d none
  grown : {d k : ℕ} {b t : Forest} → 1 ≤ k → k ≤ 8 → fits (kind_of k) (breadth b) ≡ true → d ≤ 32 → Sound (suc d) b → Sound d t → Sound d (tree k b t)

-- what is known of a node of kind byte k, with the trees b below it, at depth d
pub record Good (d k : ℕ) (b : Forest) : Type 0 where
  pub low : 1 ≤ k
  pub high : k ≤ 8
  pub counted : fits (kind_of k) (breadth b) ≡ true
  pub shallow : d ≤ 32
  pub sound : Sound (suc d) b

pub breadth-of : (kind : ℕ → ℕ) (below : ℕ → Forest) (cs : List ℕ) → breadth (trees_of kind below cs) ≡ length cs
unfolding breadth trees_of
breadth-of kind below [] = refl
breadth-of kind below (c ∷ cs) = ap suc (breadth-of kind below cs)

sound-by : (kind : ℕ → ℕ) (below : ℕ → Forest) (d : ℕ) (cs : List ℕ) → ((c : ℕ) → In c cs → Good d (kind c) (below c)) → Sound d (trees_of kind below cs)
unfolding trees_of
sound-by kind below d [] h = bare
sound-by kind below d (c ∷ cs) h =
    let g = h c (here refl) in
    grown g.low g.high g.counted g.shallow g.sound (sound-by kind below d cs (λ x i. h x (there i)))

sound-top : {d k : ℕ} {b t : Forest} → Sound d (tree k b t) → Good d k b
sound-top (grown a b e l s r) = record { low = a; high = b; counted = e; shallow = l; sound = s }

sound-in : (kind : ℕ → ℕ) (below : ℕ → Forest) (d : ℕ) (cs : List ℕ) {c : ℕ} → Sound d (trees_of kind below cs) → In c cs → Good d (kind c) (below c)
unfolding trees_of
sound-in kind below d [] {c = c} s x'' = elim x'' [ ]
sound-in kind below d (x ∷ cs) s (here q) = rw q (sound-top s)
sound-in kind below d (x ∷ cs) (grown a b e l s r) (there i) = sound-in kind below d cs r i

pub sound-root : {k : ℕ} {b : Forest} → Good 1 k b → Sound 1 (tree k b none)
sound-root g = grown g.low g.high g.counted g.shallow g.sound bare

module _ (p : List ℕ) (ok : Accepted p) where
  -- a node below which there are its children's trees, whatever is below those
  counted : (below : ℕ → Forest) (v : ℕ) → v < size p → fits (kind_of (kind_byte p v)) (breadth (trees_of (kind_byte p) below (children p v))) ≡ true
  unfolding kind
  counted below v m =
      rw (breadth-of (kind_byte p) below (children p v))
      (fits_by (kind p v) (length (children p v)) (λ e. ap length (ok.tasks v m e)) (ok.blocks v m) (ok.most v m) (ok.two v m))

  -- what is below each node is its children's trees, or is known to be good
  module _ (below : ℕ → Forest) (step : (v : ℕ) → v < size p → (below v ≡ trees_of (kind_byte p) below (children p v)) ⊎ Good (depth p v) (kind_byte p v) (below v)) where
    good-within : (f v : ℕ) → size p ≤ f + v → v < size p → Good (depth p v) (kind_byte p v) (below v)
    good-within zero v i m = absurd (omega arith)
    good-within (suc f) v i m = cases (step v m)
        (λ e. record {
          low = ok.low v m;
          high = ok.high v m;
          counted = rw e (counted below v m);
          shallow = ok.shallow v m;
          sound = rw e (sound-by (kind_byte p) below (suc (depth p v)) (children p v) (λ c n.
              let h = child-of p v n in
              let l = ok.below c h.low h.high in
              let d : depth p c ≡ suc (depth p v) = depth-child p (accepted-ordered p ok) c h.low h.high ∙ ap (λ u. suc (depth p u)) h.of in
              rw (sym d) (good-within f c (omega (arith, h.of)) h.high)));
        })
        (λ g. g)

    pub good-root : Good 1 (kind_byte p 0) (below 0)
    good-root = rw (depth-root p) at (good-within (size p) 0 (omega arith) ok.some)

  pub good : (v : ℕ) → v < size p → Good (depth p v) (kind_byte p v) (trees_below p v)
  good v m = good-within (trees_below p) (λ w l. inl (trees-step p (accepted-ordered p ok) w l)) (size p) v (omega arith) m

  pub accepted-sound : Sound 1 (tree_of p)
  unfolding tree_of
  accepted-sound = sound-root (rw (depth-root p) at (good 0 ok.some))

module _ (q : List ℕ) (ordered : Ordered q) (even : length q ≡ 2 * size q) (root : parent q 0 ≡ 255) (sound : Sound 1 (tree_of q)) where
  each : (f v : ℕ) → v < f → v < size q → Good (depth q v) (kind_byte q v) (trees_below q v)
  unfolding tree_of
  each zero v i m = absurd (omega arith)
  each (suc f) zero i m = rw (depth-root q) (sound-top sound)
  each (suc f) (suc x) i m =
      let l = ordered.below (suc x) (omega arith) m in
      let up = each f (parent q (suc x)) (omega arith) (omega arith) in
      let s : Sound (suc (depth q (parent q (suc x)))) (trees_of (kind_byte q) (trees_below q) (children q (parent q (suc x)))) = rw (trees-step q ordered (parent q (suc x)) (omega arith)) at up.sound in
      rw (depth-child q ordered (suc x) (omega arith) m)
      (sound-in (kind_byte q) (trees_below q) (suc (depth q (parent q (suc x)))) (children q (parent q (suc x))) s
      (child-in q (parent q (suc x)) (record { low = omega arith; high = m; of = refl })))

  pub sound-accepted : Accepted q
  unfolding kind
  sound-accepted =
      let at : (v : ℕ) → v < size q → Good (depth q v) (kind_byte q v) (trees_below q v) = λ v m. each (suc v) v (omega arith) m in
      let count : (v : ℕ) → v < size q → fits (kind q v) (length (children q v)) ≡ true =
      λ v m. rw (trees-step q ordered v m, breadth-of (kind_byte q) (trees_below q) (children q v)) at (at v m).counted in
      record {
        even = even;
        some = ordered.some;
        few = ordered.few;
        low = λ v m. (at v m).low;
        high = λ v m. (at v m).high;
        root = root;
        below = ordered.below;
        tasks = λ v m e. none_left (children q v) (fits-none (kind q v) (length (children q v)) (count v m) e);
        blocks = λ v m e. fits-some (kind q v) (length (children q v)) (count v m) e;
        most = λ v m. fits-most (kind q v) (length (children q v)) (count v m);
        two = λ v m e. fits-pair (kind q v) (length (children q v)) (count v m) e;
        shallow = λ v m. (at v m).shallow;
      }
