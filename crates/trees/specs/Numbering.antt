-- The fixed numbering (rules R2, R3): a tree written as a plan, and when a plan is so written. Definitions only.
use Rattle.std.specs.Prelude.{Bool, true, false, cond, ◌||◌, List, [], ◌∷◌, ◌++◌, ℕ, zero, suc, pred, ◌+◌, eqb}
use Rattle.plan.specs.Plan.{parent}
use Rattle.plan.specs.Check.{at_all}
use Rattle.trees.specs.Tree.{Forest, none, tree, node_count, tree_of}

-- R3: the bytes of trees side by side that have the parent u, numbered from n on: the first one's top, all below it, then the trees beside it
unfoldable pub written : Forest → ℕ → ℕ → List ℕ
written none u n = []
written (tree k b t) u n = k ∷ u ∷ (written b n (suc n) ++ written t u (suc n + node_count b))

-- R3: the plan of a tree
abbrev pub plan_of : Forest → List ℕ
plan_of t = written t 255 0

-- R3: a plan renumbered
unfoldable pub renumbered : List ℕ → List ℕ
renumbered p = plan_of (tree_of p)

-- R2: u is v or above v, if the root is at most so many nodes up
unfoldable pub above_within : ℕ → List ℕ → ℕ → ℕ → Bool
above_within zero p u v = false
above_within (suc nodes) p u v = eqb u v || cond (eqb v 0) false (above_within nodes p u (parent p v))

-- R2: u is v or above v
unfoldable pub is_above : List ℕ → ℕ → ℕ → Bool
is_above p u v = above_within (suc v) p u v

-- R2: v is the root, or its parent is the node right before v or above that
unfoldable pub follows : List ℕ → ℕ → Bool
follows p v = cond (eqb v 0) true (is_above p (parent p v) (pred v))

-- R2: the plan is in the fixed numbering, which is also called preorder
unfoldable pub in_preorder : List ℕ → Bool
in_preorder p = at_all follows p
