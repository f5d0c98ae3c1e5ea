-- The tree that a plan is (rule R1): kinds, and children in order; node numbers are not in it. Definitions only.
use Rattle.std.specs.Prelude.{◌≡◌, List, [], ◌∷◌, ℕ, zero, suc, ◌+◌}
use Rattle.plan.specs.Plan.{size, kind_byte, children}

-- R1: trees side by side, in order: none; or a first tree, with the kind byte k at its top and its children's trees below it, and the trees beside it
pub data Forest : Type 0 where
  none : Forest
  tree : (k : ℕ) (below beside : Forest) → Forest

-- R1: the trees of the nodes cs, by their kinds and by what is below them
unfoldable pub trees_of : (ℕ → ℕ) → (ℕ → Forest) → List ℕ → Forest
trees_of kind below [] = none
trees_of kind below (c ∷ cs) = tree (kind c) (below c) (trees_of kind below cs)

-- R1: the trees of v's children, if there are at most so many levels below v
unfoldable pub below_within : ℕ → List ℕ → ℕ → Forest
below_within zero p v = none
below_within (suc levels) p v = trees_of (kind_byte p) (below_within levels p) (children p v)

-- R1: the trees of v's children, without a bound (specs/Claim.antt, TreeSteps)
unfoldable pub trees_below : List ℕ → ℕ → Forest
trees_below p v = below_within (size p) p v

-- R1: the tree of node v
abbrev pub tree_at : List ℕ → ℕ → Forest
tree_at p v = tree (kind_byte p v) (trees_below p v) none

-- R1: the tree of a plan is the root's
unfoldable pub tree_of : List ℕ → Forest
tree_of p = tree_at p 0

-- R1: two plans are the same tree
abbrev pub SameTree : List ℕ → List ℕ → Type 0
SameTree p q = tree_of p ≡ tree_of q

-- R1: how many nodes there are in all
unfoldable pub node_count : Forest → ℕ
node_count none = 0
node_count (tree k b t) = suc (node_count b + node_count t)
