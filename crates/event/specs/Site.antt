-- Sites (rules B3 and B4): at which node's site an event happens, and which row of a state is a node's. Definitions only.
-- A site is what the paper calls a post.
use Rattle.std.specs.Prelude.{List, ℕ, ◌<◌}
use Rattle.plan.specs.Plan.{size, parent}
use Rattle.event.specs.Event.{Code, start, offer, commit, abort, answered-yes, answered-no, pick, down, Event}

-- B3: the node at whose site an event happens: for a pick the parent, else the node itself
unfoldable pub host_by : Code → ℕ → ℕ → ℕ
host_by start v u = v
host_by offer v u = v
host_by commit v u = v
host_by abort v u = v
host_by answered-yes v u = v
host_by answered-no v u = v
host_by pick v u = u
host_by down v u = v

-- B3: of an event in a plan
unfoldable pub host_of : List ℕ → Event → ℕ
host_of p e = host_by e.code e.node (parent p e.node)

-- B4: node v's site has row number `home v` of `rows`. Nodes with the same home share a site.
pub record Layout : Type 0 where
  pub rows : ℕ
  pub home : ℕ → ℕ

-- B4: every node has a site of its own, in rising number
unfoldable pub own : List ℕ → Layout
own p = record { rows = size p; home = λ v. v }

-- B4: every node of the plan has a row
abbrev pub Housed : List ℕ → Layout → Type 0
Housed p lay = (v : ℕ) → v < size p → lay.home v < lay.rows

-- B3, B4: the site where an event happens
unfoldable pub site_of : List ℕ → Layout → Event → ℕ
site_of p lay e = lay.home (host_of p e)
