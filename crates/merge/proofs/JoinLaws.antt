-- A loop that merges a row in place: below i it is merged, from i on as it was; and the answers of the whole call. Assumes nothing.
use Rattle.std.proofs.Common.{◌≡◌, refl, ◌∙◌, ap, ap₂, true, false, ◌&&◌, List, ℕ, ◌+◌, ◌*◌, ◌≤◌, ◌<◌, le_antisymm, add-one, arith, bit_or, eqb, length, get_or, set, length-set, get_or-set_same, get_or-set_other, eqb-true, ne_eqb}
use borrow.Author.Tests.{eqb-false}
use Rattle.lists.specs.Seq.{sum_below}
use Rattle.lists.proofs.Logic.{cases, decided, and_left, and_right}
use Rattle.lists.proofs.Table.{table-by}
use Rattle.plan.specs.Plan.{size}
use Rattle.plan.specs.Check.{Accepted, fit_number}
use Rattle.plan.proofs.Main.{fit-exact}
use Rattle.merge.specs.Output.{output}
use Rattle.merge.specs.Merge.{merged, row_applies, rows_fit, merge_number, merge_of}
use Rattle.merge.specs.Bytes.{new_bits, new_below}
use Rattle.merge.proofs.CountLaws.{new-below, new-few}

-- k bits were new below i
pub record Joining (row₀ other row : List ℕ) (k i : ℕ) : Type 0 where
  pub counted : k ≡ new_below row₀ other i
  pub few : k ≤ 8 * i
  pub long : length row ≡ length row₀
  pub within : i ≤ length row₀
  pub done : (j : ℕ) → j < i → get_or row j 0 ≡ bit_or (get_or row₀ j 0) (get_or other j 0)
  pub kept : (j : ℕ) → i ≤ j → get_or row j 0 ≡ get_or row₀ j 0

module _ (row₀ other : List ℕ) where
  pub join-none : Joining row₀ other row₀ 0 0
  unfolding new_below sum_below
  join-none = record { counted = refl; few = omega arith; long = refl; within = omega arith; done = λ j l. absurd (omega arith); kept = λ j l. refl }

  pub join-turn : (row : List ℕ) (k i x b : ℕ) → Joining row₀ other row k i → i < length row₀ → b ≡ new_bits (get_or row i 0) (get_or other i 0) →
      x ≡ bit_or (get_or row i 0) (get_or other i 0) → Joining row₀ other (set row i x) (k + b) (i + 1)
  unfolding new_below sum_below
  join-turn row k i x b t l d e = record {
    counted = rw (add-one) (ap₂ ◌+◌ t.counted (d ∙ ap (λ (y : ℕ). new_bits y (get_or other i 0)) (t.kept i (omega arith))));
    few = omega (arith, t.few, d, new-few (get_or row i 0) (get_or other i 0));
    long = length-set row i x ∙ t.long;
    within = omega arith;
    done = λ j m. cases (decided (eqb j i))
        (λ q. let z = eqb-true j i q in
        rw z (get_or-set_same row i x 0 (omega (arith, t.long)) ∙ e ∙ ap (λ (b : ℕ). bit_or b (get_or other i 0)) (t.kept i (omega arith))))
        (λ q. let z = eqb-false j i q in get_or-set_other row i j x 0 z ∙ t.done j (omega arith));
    kept = λ j m. get_or-set_other row i j x 0 (λ z. omega arith) ∙ t.kept j (omega arith);
  }

  pub join-done : (row : List ℕ) (k i : ℕ) → Joining row₀ other row k i → length row₀ ≤ i → row ≡ merged row₀ other
  unfolding merged
  join-done row k i t l = table-by (λ v. bit_or (get_or row₀ v 0) (get_or other v 0)) (length row₀) row t.long (λ j m. t.done j (omega arith))

  pub join-count : (row : List ℕ) (k i : ℕ) → Joining row₀ other row k i → length row₀ ≤ i → k ≡ new_below row₀ other (length row₀)
  join-count row k i t l = let z : i ≡ length row₀ = le_antisymm t.within l in t.counted ∙ ap (new_below row₀ other) z

-- THE CALL
module _ (p row other : List ℕ) where
  -- what the check of the lengths answered
  pub fit-rows : {m n : ℕ} → m ≡ fit_number p (eqb (length row) n && eqb (length other) n) → n ≡ size p → m ≡ fit_number p (rows_fit p row other)
  unfolding rows_fit
  fit-rows h e = h ∙ rw e

  pub merge-refused : (n : ℕ) → n ≡ fit_number p (rows_fit p row other) → (n ≡ 0 → ⊥) → merge_of p row other ≡ output n 0 row
  unfolding merge_of merge_number
  merge-refused n e h = rw (← e, ne_eqb n 0 h, ne_eqb n 0 h)

  module _ (z : fit_number p (rows_fit p row other) ≡ 0) where
    fit : Accepted p × (rows_fit p row other ≡ true)
    fit = (fit-exact p (rows_fit p row other)).none.0 z

    pub merge-few : size p ≤ 160
    merge-few = fit.0.few

    pub merge-row : length row ≡ size p
    unfolding rows_fit
    merge-row = eqb-true _ _ (and_left _ _ fit.1)

    pub merge-other : length other ≡ size p
    unfolding rows_fit
    merge-other = eqb-true _ _ (and_right (eqb (length row) (size p)) _ fit.1)

    pub merge-strange : (row_applies p row && row_applies p other) ≡ false → merge_of p row other ≡ output 9 0 row
    unfolding merge_of merge_number
    merge-strange h = rw (z, h)

    pub merge-done : (row_applies p row && row_applies p other) ≡ true → (new : List ℕ) (k : ℕ) → new ≡ merged row other → k ≡ new_below row other (length row) →
        merge_of p row other ≡ output 0 k new
    unfolding merge_of merge_number
    merge-done h new k w c = rw (z, h, w, c, merge-row, new-below p row other)
