-- Merged rows: what they have heard, and that merging is a join. Assumes nothing.
use Rattle.std.proofs.Common.{◌≡◌, sym, ◌∙◌, ap, ap₂, true, false, ◌||◌, List, ℕ, ◌≤◌, ◌<◌, bit_or, ltb, length, get_or, ext_get_or, ltb-true, ltb-false, arith}
use lib.ListN.{get_or-eq_default}
use Rattle.lists.proofs.Logic.{cases, clash, decided}
use Rattle.lists.proofs.Table.{table-length, table_at}
use Rattle.event.specs.Event.{code_number, Event, at}
use Rattle.event.specs.Bit.{has_bit}
use Rattle.event.proofs.BitLaws.{no-bit}
use Rattle.row.specs.Row.{heard_in, heard}
use Rattle.lists.specs.Bytes.{Bytes}
use Rattle.merge.specs.Merge.{merged}
use Rattle.merge.proofs.ByteLaws.{byte-ext, or-has, or-small}

-- a row has no event of a node behind its end
pub heard-past : (row : List ℕ) (e : Event) → length row ≤ e.node → heard row e ≡ false
unfolding heard heard_in
heard-past row e l = ap (λ (b : ℕ). has_bit b (code_number e.code)) (get_or-eq_default row 0 l) ∙ no-bit e.code

pub heard-within : (row : List ℕ) (e : Event) → heard row e ≡ true → e.node < length row
heard-within row e h = cases (decided (ltb e.node (length row)))
    (λ k. ltb-true _ _ k)
    (λ k. clash _ h (heard-past row e (ltb-false e.node (length row) k)))

-- two rows that have heard the same are one
pub row-ext : (n : ℕ) (a b : List ℕ) → Bytes n a → Bytes n b → ((e : Event) → heard a e ≡ heard b e) → a ≡ b
unfolding heard heard_in
row-ext n a b fa fb h =
    ext_get_or 0 a b (fa.long ∙ sym fb.long) (λ i l. byte-ext (get_or a i 0) (get_or b i 0) (fa.small i) (fb.small i) (λ k. h (at k i)))

module _ (n : ℕ) (a b : List ℕ) (fa : Bytes n a) (fb : Bytes n b) where
  merged-length : length (merged a b) ≡ length a
  unfolding merged
  merged-length = table-length (λ v. bit_or (get_or a v 0) (get_or b v 0)) (length a)

  merged-at : (v : ℕ) → v < length a → get_or (merged a b) v 0 ≡ bit_or (get_or a v 0) (get_or b v 0)
  unfolding merged
  merged-at v l = table_at (λ v. bit_or (get_or a v 0) (get_or b v 0)) (length a) v l

  pub merged-bytes : Bytes n (merged a b)
  merged-bytes = record {
    long = merged-length ∙ fa.long;
    small = λ i. cases (decided (ltb i (length a)))
        (λ k. rw (merged-at i (ltb-true i (length a) k)) (or-small (get_or a i 0) (get_or b i 0) (fa.small i) (fb.small i)))
        (λ k. let l = ltb-false i (length a) k in rw (get_or-eq_default (merged a b) 0 {n = i} (omega (arith, merged-length))) (omega arith));
  }

  pub merged-heard : (e : Event) → heard (merged a b) e ≡ (heard a e || heard b e)
  unfolding heard heard_in
  merged-heard e = cases (decided (ltb e.node (length a)))
      (λ k. ap (λ (x : ℕ). has_bit x (code_number e.code)) (merged-at e.node (ltb-true _ _ k)) ∙ or-has (get_or a e.node 0) (get_or b e.node 0) (code_number e.code))
      (λ k. let l = ltb-false e.node (length a) k in
      heard-past (merged a b) e (omega (arith, merged-length))
      ∙ sym (ap₂ ◌||◌ (heard-past a e l) (heard-past b e (omega (arith, fa.long, fb.long)))))
