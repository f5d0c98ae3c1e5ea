-- The plan of a tree of up to 160 nodes is in the fixed numbering, and has that tree. Assumes nothing.
use mathlib.Core.Path.{◌≡◌, refl, sym, ◌∙◌, ap}
use mathlib.Core.Bool.{true}
use mathlib.Core.List.{List, [], append-nil}
use mathlib.Core.Logic.{inl}
use Prim.Native.Nat.{ℕ, zero, suc, ◌+◌, ◌*◌, ◌<◌}
use native.Mathlib.Omega.{arith}
use lib.ListN.{length}
use Rattle.lists.proofs.Logic.{cases}
use Rattle.plan.specs.Plan.{size, kind_byte, parent}
use Rattle.plan.specs.Check.{Ordered}
use Rattle.plan.specs.Under.{self}
use Rattle.trees.specs.Tree.{Forest, none, tree, trees_below, tree_of, node_count}
use Rattle.trees.specs.Numbering.{plan_of, in_preorder}
use Rattle.trees.proofs.AboveLaws.{Preorder, preorder-by}
use Rattle.trees.proofs.LaidLaws.{Laid, first, laid-unique, written-length, laid-written, Stands, laid-stands}
use Rattle.trees.proofs.OrderLaws.{Below, below_all}

-- a root of kind k, and its children's trees behind it
pub record Rooted (q : List ℕ) (k : ℕ) (b : Forest) : Type 0 where
  pub kinds : kind_byte q 0 ≡ k
  pub root : parent q 0 ≡ 255
  pub laid : Laid q b 0 1

rooted : {q : List ℕ} {k : ℕ} {b : Forest} → Laid q (tree k b none) 255 0 → Rooted q k b
rooted (first a r g h) = record { kinds = a; root = r; laid = g }

pub plan-laid : (t : Forest) → Laid (plan_of t) t 255 0
plan-laid t = (laid-written (plan_of t) t 255 0 [] (sym (append-nil (plan_of t)))).0

module _ (k : ℕ) (b : Forest) (few : node_count b < 160) where
  abbrev plan : List ℕ
  plan = plan_of (tree k b none)

  pub plan-length : length plan ≡ 2 * suc (node_count b)
  unfolding node_count
  plan-length = written-length (tree k b none) 255 0 ∙ ap (λ n. 2 * n) (let z : suc (node_count b + 0) ≡ suc (node_count b) = omega arith in z)

  pub plan-size : size plan ≡ suc (node_count b)
  unfolding size
  plan-size = omega (arith, plan-length)

  pub plan-rooted : Rooted plan k b
  plan-rooted = rooted (plan-laid (tree k b none))

  plan-stands : (x : ℕ) → suc x < size plan → Stands plan 0 x
  plan-stands x l = laid-stands plan b 0 0 (omega arith) plan-rooted.laid (self refl) x (omega arith) (omega (arith, plan-size))

  pub plan-ordered : Ordered plan
  plan-ordered = record { some = omega (arith, plan-size); few = omega (arith, plan-size); below = go }
    where
      go : (v : ℕ) → 0 < v → v < size plan → parent plan v < v
      go zero l m = absurd (omega arith)
      go (suc x) l m = (plan-stands x m).high

  plan-points : Preorder plan
  plan-points x l = (plan-stands x l).under

  pub plan-preorder : in_preorder plan ≡ true
  plan-preorder = preorder-by plan plan-ordered plan-points

  plan-below : trees_below plan 0 ≡ b
  unfolding trees_below
  plan-below =
      let g : Below plan 0 1 (trees_below plan 0) = below_all plan plan-ordered plan-points (size plan) 0 (omega arith) plan-ordered.some in
      laid-unique plan (trees_below plan 0) b 0 1 (omega arith) g.laid plan-rooted.laid
      g.within (omega (arith, plan-size))
      (cases g.out inl (λ h. absurd (omega (arith, h.0))))
      (inl (omega (arith, plan-size)))

  pub plan-tree : tree_of plan ≡ tree k b none
  unfolding tree_of
  plan-tree = rw (plan-below, plan-rooted.kinds)
