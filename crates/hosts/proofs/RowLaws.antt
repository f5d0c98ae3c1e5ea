-- A site's row in a state: fresh, and after one site has heard an event; and what a step and a message leave of a row. Assumes nothing.
use mathlib.Core.Path.{◌≡◌, refl, sym, ◌∙◌, ap}
use mathlib.Core.Bool.{false, cond}
use mathlib.Core.List.{List, ◌∷◌}
use Prim.Native.Nat.{ℕ, zero, suc, ◌+◌, ◌-◌, ◌*◌, ◌≤◌, ◌<◌}
use lib.Dec.{eqb, ltb}
use lib.ListN.{get_or, take, drop, set, replicate}
use lib.Seq.{take-set-le, take-set-lt, drop-set-lt, drop-set-add}
use borrow.Author.Tests.{eqb-true, eqb-false, ltb-true, ltb-false}
use native.Mathlib.Omega.{arith}
use Rattle.lists.proofs.Logic.{cases, decided}
use Rattle.plan.specs.Plan.{size}
use Rattle.event.specs.Site.{Layout}
use Rattle.event.specs.Bit.{with_bit}
use Rattle.central.specs.Central.{update}
use Rattle.row.specs.Row.{hear}
use Rattle.site.specs.Verdict.{report_of, verdict_number}
use Rattle.site.specs.Step.{step_invalid, Stepped, site_at, hear_of}
use Rattle.site.proofs.StepLaws.{hear-valid, hear-invalid, step-invalid}
use Rattle.job.specs.Simulation.{row_of, with_row, zeros}
use Rattle.job.proofs.StateLaws.{row_below, byte_at, row-hear}
use Rattle.hosts.specs.Hosts.{try_number, send_number}

-- fresh
cut-zeros : (n a k : ℕ) → a + n ≤ k → ◌≡◌ {A = List ℕ} (take {A = ℕ} n (drop {A = ℕ} a (replicate {A = ℕ} k 0))) (replicate {A = ℕ} n 0)
cut-zeros zero zero k h = refl
cut-zeros (suc n) zero zero h = absurd (omega arith)
cut-zeros (suc n) zero (suc k) h = ap (λ (l : List ℕ). 0 ∷ l) (cut-zeros n zero k (omega arith))
cut-zeros zero (suc a) zero h = absurd (omega arith)
cut-zeros (suc n) (suc a) zero h = absurd (omega arith)
cut-zeros n (suc a) (suc k) h = cut-zeros n a k (omega arith)

pub row_fresh : (p : List ℕ) (lay : Layout) (q : ℕ) → q < lay.rows → row_of p (zeros p lay) q ≡ replicate (size p) 0
unfolding row_of zeros
row_fresh p lay q l = cut-zeros (size p) (q * size p) (lay.rows * size p) (row_below (size p) q lay.rows l)

-- site q hears an event of node v
module _ (p st : List ℕ) (q v code : ℕ) (node : v < size p) where
  byte : ℕ
  byte = with_bit (get_or st (q * size p + v) 0) code

  row-own : row_of p (set st (q * size p + v) byte) q ≡ hear (row_of p st q) code v
  unfolding row_of hear byte
  row-own =
      ap (λ (l : List ℕ). take (size p) l) (drop-set-add (q * size p) st v byte)
      ∙ take-set-lt (size p) (drop (q * size p) st) v byte node
      ∙ ap (λ (b : ℕ). set (take (size p) (drop (q * size p) st)) v (with_bit b code)) (sym (byte_at p st q v node))

  row-else : (r : ℕ) → (q ≡ r → ⊥) → row_of p (set st (q * size p + v) byte) r ≡ row_of p st r
  unfolding row_of
  row-else r ne = cases (decided (ltb r q))
      (λ h. let b = row_below (size p) r q (ltb-true r q h) in
      let k : ℕ = q * size p + v - r * size p in
      let e : q * size p + v ≡ r * size p + k = omega arith in
      ap (λ (i : ℕ). take (size p) (drop (r * size p) (set st i byte))) e
      ∙ ap (λ (l : List ℕ). take (size p) l) (drop-set-add (r * size p) st k byte)
      ∙ take-set-le (size p) (drop (r * size p) st) k byte (omega arith))
      (λ h. let o = ltb-false r q h in
      let b = row_below (size p) q r (omega arith) in
      ap (λ (l : List ℕ). take (size p) l) (drop-set-lt (r * size p) st (q * size p + v) byte (omega arith)))

  pub row-heard : (r : ℕ) → row_of p (with_row p st q (hear (row_of p st q) code v)) r ≡ update (row_of p st) q (hear (row_of p st q) code v) r
  unfolding byte
  row-heard r = ap (λ (l : List ℕ). row_of p l r) (row-hear p st q v node code) ∙ cases (decided (eqb q r))
      (λ h. rw (h, ← (eqb-true q r h)) row-own)
      (λ h. rw h (row-else r (eqb-false q r h)))

-- what a step and a message answer and leave
module _ (p : List ℕ) (code node : ℕ) (row : List ℕ) where
  pub step-refused : (eqb (step_invalid p code node row) 0 ≡ false) → try_number p code node row ≡ step_invalid p code node row
  unfolding try_number report_of
  step-refused z = rw (step-invalid p (site_at p code node) code node row (step_invalid p code node row) refl (eqb-false _ 0 z))

  pub hear-number : send_number p code node row ≡ step_invalid p code node row
  unfolding send_number report_of
  hear-number = cases (decided (eqb (step_invalid p code node row) 0))
      (λ z. ap (λ (s : Stepped). verdict_number s.verdict) (hear-valid p code node row (eqb-true _ 0 z)) ∙ sym (eqb-true _ 0 z))
      (λ z. ap (λ (s : Stepped). verdict_number s.verdict) (hear-invalid p code node row (step_invalid p code node row) refl (eqb-false _ 0 z)))

  pub hear-leaves : (hear_of p code node row).row ≡ cond (eqb (send_number p code node row) 0) (hear row code node) row
  hear-leaves = cases (decided (eqb (step_invalid p code node row) 0))
      (λ z. ap (λ (s : Stepped). s.row) (hear-valid p code node row (eqb-true _ 0 z)) ∙ sym (rw (hear-number, z)))
      (λ z. ap (λ (s : Stepped). s.row) (hear-invalid p code node row (step_invalid p code node row) refl (eqb-false _ 0 z)) ∙ sym (rw (hear-number, z)))
