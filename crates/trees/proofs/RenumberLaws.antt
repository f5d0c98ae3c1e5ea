-- Renumbering: the plan of a plan's own tree. Assumes nothing.
use mathlib.Core.Path.{◌≡◌, refl, sym, ◌∙◌, ap}
use mathlib.Core.Bool.{true}
use mathlib.Core.List.{List}
use Prim.Native.Nat.{ℕ, zero, suc, ◌*◌, ◌<◌}
use native.Mathlib.Omega.{arith}
use lib.ListN.{length}
use Rattle.plan.specs.Plan.{size, kind_byte, parent, children}
use Rattle.plan.specs.Check.{Accepted}
use Rattle.plan.proofs.PlanLaws.{child-in}
use Rattle.plan.proofs.AcceptedLaws.{accepted-ordered}
use Rattle.trees.specs.Tree.{Forest, none, tree, trees_below, tree_of, SameTree, node_count}
use Rattle.trees.specs.Numbering.{plan_of, renumbered, in_preorder}
use Rattle.trees.proofs.AboveLaws.{preorder-told}
use Rattle.trees.proofs.LaidLaws.{Laid, nothing, first, laid-alike, alike_same}
use Rattle.trees.proofs.OrderLaws.{below_all}
use Rattle.trees.proofs.TreeLaws.{count-in, trees-step, count-all}
use Rattle.trees.proofs.WrittenLaws.{plan-laid, plan-length, plan-size, plan-rooted, plan-ordered, plan-preorder, plan-tree}
use Rattle.trees.proofs.SoundLaws.{Sound, accepted-sound, sound-accepted}

-- the plan of a tree within the limits is accepted
pub plan-accepted : (k : ℕ) (b : Forest) → node_count b < 160 → Sound 1 (tree k b none) → Accepted (plan_of (tree k b none))
plan-accepted k b few s = sound-accepted (plan_of (tree k b none)) (plan-ordered k b few)
    (plan-length k b few ∙ ap (λ n. 2 * n) (sym (plan-size k b few))) (plan-rooted k b few).root (rw (plan-tree k b few) s)

module _ (p : List ℕ) (ok : Accepted p) where
  -- the root, and the nodes below it
  pub below-count : suc (node_count (trees_below p 0)) ≡ size p
  unfolding tree_of node_count
  below-count = let c = count-all p (accepted-ordered p ok) in omega arith

  few-within : (f v : ℕ) → v < f → v < size p → node_count (trees_below p v) < size p
  few-within zero v i l = absurd (omega arith)
  few-within (suc f) zero i l = omega (arith, below-count)
  few-within (suc f) (suc x) i l =
      let b = ok.below (suc x) (omega arith) l in
      let up = few-within f (parent p (suc x)) (omega arith) (omega arith) in
      let c = count-in (kind_byte p) (trees_below p) (children p (parent p (suc x))) (child-in p (parent p (suc x)) (record { low = omega arith; high = l; of = refl })) in
      let e = ap node_count (trees-step p (accepted-ordered p ok) (parent p (suc x)) (omega arith)) in
      omega arith

  -- below any node there are fewer than all
  pub below-few : (v : ℕ) → v < size p → node_count (trees_below p v) < size p
  below-few v l = few-within (suc v) v (omega arith) l

  few : node_count (trees_below p 0) < 160
  few = let f = ok.few in omega (arith, below-count)

  pub new-accepted : Accepted (renumbered p)
  unfolding renumbered tree_of
  new-accepted = plan-accepted (kind_byte p 0) (trees_below p 0) few (accepted-sound p ok)

  pub new-length : length (renumbered p) ≡ length p
  unfolding renumbered tree_of
  new-length = plan-length (kind_byte p 0) (trees_below p 0) few ∙ ap (λ n. 2 * n) below-count ∙ sym ok.even

  pub new-same : SameTree (renumbered p) p
  unfolding renumbered tree_of
  new-same = plan-tree (kind_byte p 0) (trees_below p 0) few

  pub new-preorder : in_preorder (renumbered p) ≡ true
  unfolding renumbered tree_of
  new-preorder = plan-preorder (kind_byte p 0) (trees_below p 0) few

  own-laid : in_preorder p ≡ true → Laid p (tree_of p) 255 0
  unfolding tree_of trees_below
  own-laid h = first refl ok.root (below_all p (accepted-ordered p ok) (preorder-told p (accepted-ordered p ok) h) (size p) 0 (omega arith) ok.some).laid nothing

  -- a plan in the fixed numbering is what its tree is written as
  pub new-fixed : in_preorder p ≡ true → renumbered p ≡ p
  unfolding renumbered
  new-fixed h = alike_same (renumbered p) p (size p) (new-length ∙ ok.even) ok.even
      (λ x l. laid-alike (renumbered p) p (tree_of p) 255 0 (plan-laid (tree_of p)) (own-laid h) x (omega arith) (omega (arith, count-all p (accepted-ordered p ok))))

pub same_bytes : (p q : List ℕ) → SameTree p q → renumbered p ≡ renumbered q
unfolding renumbered
same_bytes p q e = ap plan_of e
