-- THE CLAIMS of rules U. Definitions only.
use Rattle.std.specs.Prelude.{◌≡◌, ℕ, ◌+◌, ◌*◌, ◌<◌, ◌≤◌, ◌⊎◌, ◌↔◌, List, ◌++◌, length, slice_index}
use Rattle.plan.specs.Plan.{size}
use Rattle.plan.specs.Check.{Accepted}
use Rattle.plan.specs.Replaced.{replaced}
use Rattle.simulation.specs.Run.{run_of}
use Rattle.workload.specs.Load.{after, load}
use Rattle.workload.specs.Call.{load_of}

-- CLAIM (U4). A longer load begins with the shorter one, and goes on from where the generator is then.
abbrev pub LoadGoesOn : Type 0
LoadGoesOn = (n c d s : ℕ) → load n (c + d) s ≡ load n c s ++ load n d (after (4 * c) s)

-- U2: three bytes that are a step in a plan of n nodes: an event, or a message to a site
pub record IsFrame (n code node site : ℕ) : Type 0 where
  pub low : 1 ≤ code
  pub high : code ≤ 8
  pub known : node < n
  pub told : (site ≡ 255) ⊎ (site < n)

-- U3, U4: the load is whole frames, each of which is a step of the plan
pub record Frames (n c s : ℕ) : Type 0 where
  pub long : length (load n c s) ≡ 3 * c
  pub each : (i : ℕ) → i < c → IsFrame n (slice_index (load n c s) (3 * i)) (slice_index (load n c s) (3 * i + 1)) (slice_index (load n c s) (3 * i + 2))

-- CLAIM (U4)
abbrev pub LoadFrames : Type 0
LoadFrames = (n : ℕ) → 0 < n → (c s : ℕ) → Frames n c s

-- CLAIM (U4). A simulation takes the load as it is.
abbrev pub LoadRuns : Type 0
LoadRuns = (p : List ℕ) → Accepted p → (c s : ℕ) (st ns : List ℕ) → length st ≡ size p * size p → length ns ≡ c → (run_of p (load (size p) c s) st ns).number ≡ 0

-- CLAIM (U5). When a call passes, and what it then leaves.
abbrev pub LoadCall : Type 0
LoadCall = (p : List ℕ) (s c : ℕ) (out out' : List ℕ) → (load_of p s c out ≡ replaced 0 out') ↔ (Accepted p × (length out ≡ 3 * c) × (out' ≡ load (size p) c s))
