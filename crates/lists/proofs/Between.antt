-- Two functions that agree on a short range, by one computed equation. Assumes nothing.
use mathlib.Core.Path.{◌≡◌}
use mathlib.Core.List.{map}
use mathlib.Core.Logic.{⊎_elim}
use Prim.Native.Nat.{ℕ, zero, suc, ◌+◌, ◌≤◌, ◌<◌}
use native.Mathlib.Nat.{eq-or-lt_of_le}
use native.Mathlib.Omega.{arith}
use Rattle.lists.specs.Seq.{up_from}

-- from, from + 1, .., count of them
pub between : {A : Type 0} (f g : ℕ → A) (from count : ℕ) → map f (up_from from count) ≡ map g (up_from from count) → (k : ℕ) → from ≤ k → k < from + count → f k ≡ g k
unfolding up_from
between f g from zero e k l h = absurd (omega arith)
between f g from (suc count) e k l h =
    ⊎_elim (λ q. rw (← q) (cc)) (λ m. between f g (suc from) count (cc) k m (omega arith)) (eq-or-lt_of_le l)
