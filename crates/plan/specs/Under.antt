-- Subtrees (rule A4). Definitions only.
use Rattle.std.specs.Prelude.{◌≡◌, List, ℕ, ◌<◌}
use Rattle.plan.specs.Plan.{parent}

-- A4: w is in v's subtree: it is v, or its parent is in it
pub data Under (p : List ℕ) (v : ℕ) : ℕ → Type 0 where
  self : {w : ℕ} → v ≡ w → Under p v w
  up : {w : ℕ} → 0 < w → Under p v (parent p w) → Under p v w

-- A4: w is below v
abbrev pub Below : List ℕ → ℕ → ℕ → Type 0
Below p v w = (0 < w) × Under p v (parent p w)
