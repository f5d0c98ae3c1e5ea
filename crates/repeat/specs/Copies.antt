-- What the function that writes a node's tree so many times takes and leaves (rules R3, S2). Definitions only.
use Rattle.std.specs.Prelude.{◌≡◌, List, ℕ, ◌+◌, ◌*◌, ◌≤◌, ◌<◌, length}
use Rattle.lists.specs.Put.{Put}
use Rattle.plan.specs.Plan.{size}
use Rattle.plan.specs.Check.{Accepted}
use Rattle.links.specs.Links.{Linked}
use Rattle.trees.specs.Tree.{tree_at, node_count}
use Rattle.trees.specs.Numbering.{written}
use Rattle.template.specs.Repeat.{times}

-- S2: c's tree, k times, is to be numbered from n on, and there is room for it
pub record Copyable (p first next out : List ℕ) (c n k : ℕ) : Type 0 where
  pub accepted : Accepted p
  pub linked : Linked p first next
  pub node : c < size p
  pub room : 2 * (n + node_count (times k (tree_at p c))) ≤ length out
  pub few : length out ≤ 320

-- S2: it is written below u, and r is the number behind it
pub record Copied (p : List ℕ) (c u n k : ℕ) (out out' : List ℕ) (r : ℕ) : Type 0 where
  pub behind : r ≡ n + node_count (times k (tree_at p c))
  pub put : Put (written (times k (tree_at p c)) u n) out (2 * n) out' (2 * r)
