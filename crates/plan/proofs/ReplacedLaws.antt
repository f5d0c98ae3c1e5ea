-- A call that leaves the lent bytes with a number, and else leaves new ones. Assumes nothing.
use mathlib.Core.Path.{◌≡◌, refl, ap}
use mathlib.Core.Bool.{Bool, true, false, cond, not}
use mathlib.Core.List.{List}
use mathlib.Core.Logic.{◌↔◌}
use Prim.Native.Nat.{ℕ}
use lib.Dec.{eqb}
use borrow.Author.Tests.{eqb-true, eqb-false, ne_eqb}
use Rattle.plan.specs.Replaced.{Replaced, replaced, replaced_by}

pub replaced-left : (n : ℕ) (out new : List ℕ) → (n ≡ 0 → ⊥) → replaced_by n out new ≡ replaced n out
replaced-left n out new h = rw (ne_eqb n 0 h)

-- it passes just where its number is 0, and then leaves the new ones
pub replaced-just : (n : ℕ) (out new q : List ℕ) → (replaced_by n out new ≡ replaced 0 q) ↔ ((n ≡ 0) × (new ≡ q))
replaced-just n out new q = go (eqb n 0) refl
  where
    go : (b : Bool) → eqb n 0 ≡ b → (cond (not b) (replaced n out) (replaced 0 new) ≡ replaced 0 q) ↔ ((n ≡ 0) × (new ≡ q))
    go true e = (λ h. (eqb-true n 0 e, ap (λ (r : Replaced). r.out) h), λ h. ap (replaced 0) h.1)
    go false e = (λ h. absurd (eqb-false n 0 e (ap (λ (r : Replaced). r.number) h)), λ h. absurd (eqb-false n 0 e h.0))
