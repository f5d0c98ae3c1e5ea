-- What a function that writes a node and the trees below it takes and leaves (rule R3). Definitions only.
use Rattle.std.specs.Prelude.{◌≡◌, List, ℕ, suc, ◌+◌, ◌*◌, ◌≤◌, ◌<◌, length}
use Rattle.lists.specs.Put.{Put}
use Rattle.plan.specs.Plan.{size, kind_byte}
use Rattle.plan.specs.Check.{Accepted}
use Rattle.links.specs.Links.{Linked}
use Rattle.trees.specs.Tree.{Forest, none, tree, node_count}
use Rattle.trees.specs.Numbering.{written}

-- R3: v and the trees b below it are to be numbered from n on, and there is room for them
pub record Placeable (p first next out : List ℕ) (v n : ℕ) (b : Forest) : Type 0 where
  pub accepted : Accepted p
  pub linked : Linked p first next
  pub node : v < size p
  pub room : 2 * (suc n + node_count b) ≤ length out
  pub few : length out ≤ 320

-- R3: they are written, and r is the number behind them
pub record Placed (p : List ℕ) (v u n : ℕ) (b : Forest) (out out' : List ℕ) (r : ℕ) : Type 0 where
  pub behind : r ≡ suc n + node_count b
  pub put : Put (written (tree (kind_byte p v) b none) u n) out (2 * n) out' (2 * r)
