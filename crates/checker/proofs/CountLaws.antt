-- How many children a kind byte allows, by ranges of bytes. Assumes nothing.
use mathlib.Core.Path.{◌≡◌, refl}
use mathlib.Core.Bool.{◌&&◌}
use Prim.Native.Nat.{ℕ, zero, suc, ◌≤◌, ◌<◌}
use lib.Dec.{eqb, leb}
use native.Mathlib.Omega.{arith}
use Rattle.plan.specs.Plan.{kind_of}
use Rattle.plan.specs.Check.{fits}
use Rattle.plan.proofs.KindLaws.{kind-other}

pub fits-block : (k n : ℕ) → 2 ≤ k → k ≤ 6 → fits (kind_of k) n ≡ (leb 1 n && leb n 32)
unfolding fits kind_of
fits-block zero n l m = absurd (omega arith)
fits-block (suc zero) n l m = absurd (omega arith)
fits-block (suc (suc zero)) n l m = refl
fits-block (suc (suc (suc zero))) n l m = refl
fits-block (suc (suc (suc (suc zero)))) n l m = refl
fits-block (suc (suc (suc (suc (suc zero))))) n l m = refl
fits-block (suc (suc (suc (suc (suc (suc zero)))))) n l m = refl
fits-block (suc (suc (suc (suc (suc (suc (suc k))))))) n l m = absurd (omega arith)

pub fits_low : (k n : ℕ) → k < 2 → fits (kind_of k) n ≡ eqb n 0
unfolding fits kind_of
fits_low zero n l = refl
fits_low (suc zero) n l = refl
fits_low (suc (suc k)) n l = absurd (omega arith)

pub fits-high : (k n : ℕ) → 8 < k → fits (kind_of k) n ≡ eqb n 0
unfolding fits
fits-high k n l = rw (kind-other k (λ a b. omega arith))

pub fits-two : (k n : ℕ) → k ≡ 7 → fits (kind_of k) n ≡ eqb n 2
unfolding fits kind_of
fits-two k n e = rw e

pub fits-waiting : (k n : ℕ) → k ≡ 8 → fits (kind_of k) n ≡ (leb 1 n && leb n 32)
unfolding fits kind_of
fits-waiting k n e = rw e
