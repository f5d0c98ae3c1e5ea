-- A loop that fills a list from the front: below v each byte is f's. Assumes nothing.
use mathlib.Core.Path.{◌≡◌, ◌∙◌}
use mathlib.Core.List.{List}
use Prim.Native.Nat.{ℕ, ◌+◌, ◌≤◌, ◌<◌}
use native.Mathlib.Nat.{le_antisymm}
use native.Mathlib.Omega.{arith}
use lib.Dec.{eqb}
use lib.ListN.{length, get_or, set, length-set}
use lib.Seq.{get_or-set_same, get_or-set_other}
use borrow.Author.Tests.{eqb-true, eqb-false}
use Rattle.lists.specs.Seq.{table}
use Rattle.lists.proofs.Logic.{cases, decided}
use Rattle.lists.proofs.Table.{table-by}

pub record Filling (f : ℕ → ℕ) (n : ℕ) (out : List ℕ) (v : ℕ) : Type 0 where
  pub long : length out ≡ n
  pub within : v ≤ n
  pub each : (i : ℕ) → i < v → get_or out i 0 ≡ f i

module _ (f : ℕ → ℕ) (n : ℕ) (out : List ℕ) where
  pub fill_none : length out ≡ n → Filling f n out 0
  fill_none e = record { long = e; within = omega arith; each = λ i l. absurd (omega arith) }

  pub fill-turn : (v x : ℕ) → Filling f n out v → v < n → x ≡ f v → Filling f n (set out v x) (v + 1)
  fill-turn v x t l e = record {
    long = length-set out v x ∙ t.long;
    within = omega arith;
    each = λ i m. cases (decided (eqb i v))
        (λ q. let z = eqb-true i v q in rw z (get_or-set_same out v x 0 (omega (arith, t.long)) ∙ e))
        (λ q. let z = eqb-false i v q in get_or-set_other out v i x 0 z ∙ t.each i (omega arith));
  }

  pub fill_done : (v : ℕ) → Filling f n out v → n ≤ v → out ≡ table f n
  fill_done v t l = let e : v ≡ n = le_antisymm t.within l in table-by f n out t.long (λ i m. t.each i (omega arith))
