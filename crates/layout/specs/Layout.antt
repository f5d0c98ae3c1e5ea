-- A layout of rows in bytes (rule B4): one table says which row a node has, another which row a site's number names. Without tables every node has
-- its own row. Definitions only.
use Rattle.std.specs.Prelude.{◌≡◌, cond, List, [], ℕ, ◌*◌, ◌≤◌, ltb, length, get_or}
use Rattle.plan.specs.Plan.{size}
use Rattle.plan.specs.Check.{Accepted}
use Rattle.event.specs.Bit.{has_bit}
use Rattle.event.specs.Site.{Layout, own, Housed}

-- B4: the entry of a table; past its end a number stands for itself
unfoldable pub via : List ℕ → ℕ → ℕ
via t i = cond (ltb i (length t)) (get_or t i 0) i

-- B4: node v has row `via home v` of `rows`
unfoldable pub layout_by : ℕ → List ℕ → Layout
layout_by rows home = record { rows = rows; home = λ v. via home v }

-- CLAIM (B4). Without a table every node has its own row, so that a plan of two bytes a node is an instance.
abbrev pub OwnByNone : Type 0
OwnByNone = (p : List ℕ) → layout_by (size p) [] ≡ own p

-- A1, B4, H7: what a caller has tested before it steps: the plan, its rows, and the length of the state
pub record Laid (p : List ℕ) (lay : Layout) (st : List ℕ) : Type 0 where
  pub plan : Accepted p
  pub housed : Housed p lay
  pub few : lay.rows ≤ 160
  pub long : length st ≡ lay.rows * size p

-- B6: a mark by a byte of the row of the node's own site, the first that fits
unfoldable pub mark_byte : ℕ → ℕ
mark_byte b = cond (has_bit b 3) 3 (cond (has_bit b 4) 4 (cond (has_bit b 8) 5 (cond (has_bit b 2) 2 (cond (has_bit b 1) 1 0))))
