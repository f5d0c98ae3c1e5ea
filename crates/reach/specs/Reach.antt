-- What one task's answer can change (rules O1, O2). Definitions only.
use Rattle.std.specs.Prelude.{◌≡◌, List, ◌⊎◌, ℕ, ◌<◌, get_or}
use Rattle.plan.specs.Plan.{kind, parent, size}
use Rattle.plan.specs.declared.kinds.Kind.TheVariants.{Task as task, Serial as serial, Contingency as contingency}
use Rattle.plan.specs.Under.{Under}
use Rattle.pass.specs.Pass.{pass}

-- O1: two lists of answers that the pass accepts both, the same but for the task t
pub record OneTask (p a b : List ℕ) (t : ℕ) : Type 0 where
  pub within : t < size p
  pub is-task : kind p t ≡ task
  pub same : (w : ℕ) → w < size p → (w ≡ t → ⊥) → get_or a w 0 ≡ get_or b w 0
  pub first : (pass p a).number ≡ 0
  pub second : (pass p b).number ≡ 0

-- O2: s is a later sibling of u, and their parent is a serial or a contingency
pub record Follows (p : List ℕ) (u s : ℕ) : Type 0 where
  pub inner : 0 < u
  pub later : u < s
  pub sibling : parent p s ≡ parent p u
  pub one_by_one : (kind p (parent p u) ≡ serial) ⊎ (kind p (parent p u) ≡ contingency)

-- O2: w is in the reach of the task t: it is t or a block above it, or in the subtree of a node that follows one of these
pub data InReach (p : List ℕ) (t : ℕ) : ℕ → Type 0 where
  above : {w : ℕ} → Under p w t → InReach p t w
  after : {w : ℕ} (u s : ℕ) → Under p u t → Follows p u s → Under p s w → InReach p t w
