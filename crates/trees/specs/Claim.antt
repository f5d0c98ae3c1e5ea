-- THE CLAIMS of rules R1 to R5. Definitions only.
use Rattle.std.specs.Prelude.{◌≡◌, true, List, ◌↔◌, ℕ, ◌≤◌, ◌<◌, length}
use Rattle.plan.specs.Plan.{size, kind_byte, children}
use Rattle.plan.specs.Check.{Ordered, Accepted}
use Rattle.plan.specs.Under.{Under}
use Rattle.plan.specs.Replaced.{replaced}
use Rattle.trees.specs.Tree.{trees_of, trees_below, tree_of, SameTree, node_count}
use Rattle.trees.specs.Numbering.{renumbered, in_preorder}
use Rattle.trees.specs.Renumber.{renumber_of}

-- CLAIM (R1). What is below a node is its children's trees, in rising number; and the tree has as many nodes as the plan.
abbrev pub TreeSteps : Type 0
TreeSteps = (p : List ℕ) → Ordered p →
    ((v : ℕ) → v < size p → trees_below p v ≡ trees_of (kind_byte p) (trees_below p) (children p v)) × (node_count (tree_of p) ≡ size p)

-- R2: every subtree has its numbers together
abbrev pub Together : List ℕ → Type 0
Together p = (u w x : ℕ) → u ≤ w → w ≤ x → x < size p → Under p u x → Under p u w

-- R2, R4: what holds of an accepted plan
pub record Renumbers (p : List ℕ) : Type 0 where
  -- R2: the test says what the fixed numbering is
  pub exact : (in_preorder p ≡ true) ↔ Together p
  -- R4: the renumbered plan is accepted, as long, the same tree, and in the fixed numbering
  pub accepted : Accepted (renumbered p)
  pub long : length (renumbered p) ≡ length p
  pub same : SameTree (renumbered p) p
  pub ordered : in_preorder (renumbered p) ≡ true
  -- R4: and it is the only such plan
  pub only : (q : List ℕ) → Accepted q → SameTree q p → in_preorder q ≡ true → q ≡ renumbered p
  -- R4: twice is once
  pub twice : renumbered (renumbered p) ≡ renumbered p
  -- R4: it stays as it is just where it is in the fixed numbering
  pub stays : (renumbered p ≡ p) ↔ (in_preorder p ≡ true)
  -- R4: the same bytes are the same tree
  pub tells : (q : List ℕ) → Accepted q → (renumbered p ≡ renumbered q) ↔ SameTree p q

-- MAIN CLAIM (R2, R4)
abbrev pub RenumberRight : Type 0
RenumberRight = (p : List ℕ) → Accepted p → Renumbers p

-- R5: of the plan p, with the bytes out lent, the plan q is left
pub record AsRenumbered (p out q : List ℕ) : Type 0 where
  pub given : Accepted p
  pub long : length out ≡ length p
  pub accepted : Accepted q
  pub same : SameTree q p
  pub ordered : in_preorder q ≡ true

-- CLAIM (R4, R5). A call passes and leaves q just where p is accepted, the lent bytes have its length, and q is the same tree in the fixed numbering.
abbrev pub RenumberCall : Type 0
RenumberCall = (p out q : List ℕ) → (renumber_of p out ≡ replaced 0 q) ↔ AsRenumbered p out q
