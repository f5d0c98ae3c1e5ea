-- Accepted plans are candidates, and candidates are bytes of which every parent is before its node. Assumes nothing.
use Rattle.std.proofs.Common.{◌≡◌, refl, List, [], ◌∷◌, ℕ, zero, suc, ◌+◌, ◌-◌, ◌*◌, ◌/◌, ◌%◌, ◌≤◌, ◌<◌, arith, eqb, ltb, length, get_or}
use lib.ListN.{get_or-eq_default}
use borrow.Author.Tests.{eqb-true, eqb-false, eq-eqb, ne_eqb, ltb-true, ltb-false}
use Rattle.lists.specs.Bytes.{Bytes}
use Rattle.lists.specs.Seq.{up_from}
use Rattle.lists.proofs.Between.{between}
use Rattle.lists.proofs.Logic.{cases, decided}
use Rattle.plan.specs.Plan.{kind_number, kind_of, size, kind_byte, parent}
use Rattle.plan.specs.Check.{Accepted, Ordered}
use Rattle.small_plans.proofs.LastLaws.{end-task}
use Rattle.next_plan.specs.Candidates.{lowest, highest, Fits, end, more, Candidate}

-- each byte within its range
fits_by : (n i : ℕ) (l : List ℕ) → ((k : ℕ) → k < length l → (lowest (i + k) ≤ get_or l k 0) × (get_or l k 0 ≤ highest n (i + k))) → Fits n i l
fits_by n i [] h = end
fits_by n i (b ∷ l) h =
    let a : (lowest i ≤ b) × (b ≤ highest n i) = rw (let z : i + 0 ≡ i = omega arith in z) at (h 0 (omega arith)) in
    more a.0 a.1 (fits_by n (suc i) l (λ k m. rw (let z : suc i + k ≡ i + suc k = omega arith in z) (h (suc k) (omega arith))))

-- the ranges of kinds, of the root's parent and of other parents
pub even-range : (n i : ℕ) → i % 2 ≡ 0 → (lowest i ≡ 1) × ((i + 2 ≡ n → highest n i ≡ 1) × ((i + 2 ≡ n → ⊥) → highest n i ≡ 8))
unfolding lowest highest
even-range n i e = (rw (eq-eqb (i % 2) 0 e), (λ z. rw (eq-eqb (i % 2) 0 e, eq-eqb (i + 2) n z), λ z. rw (eq-eqb (i % 2) 0 e, ne_eqb (i + 2) n z)))

pub odd-range : (n v : ℕ) → 0 < v → (lowest (2 * v + 1) ≡ 0) × (highest n (2 * v + 1) ≡ v - 1)
unfolding lowest highest
odd-range n v l =
    let z : (2 * v + 1) % 2 ≡ 0 → ⊥ = λ e. omega arith in
    let y : 2 * v + 1 ≡ 1 → ⊥ = λ e. omega arith in
    (rw (ne_eqb ((2 * v + 1) % 2) 0 z, ne_eqb (2 * v + 1) 1 y), rw (ne_eqb ((2 * v + 1) % 2) 0 z, ne_eqb (2 * v + 1) 1 y, (let h : (2 * v + 1) / 2 ≡ v = omega arith in h)))

root-range : (n : ℕ) → (lowest 1 ≡ 255) × (highest n 1 ≡ 255)
unfolding lowest highest
root-range n = (refl, refl)

module _ (q : List ℕ) (ok : Accepted q) where
  odd-fits : (v : ℕ) → v < size q → (lowest (2 * v + 1) ≤ parent q v) × (parent q v ≤ highest (length q) (2 * v + 1))
  odd-fits v l = cases (decided (eqb v 0))
      (λ z. let e : v ≡ 0 = eqb-true v 0 z in rw e (let r = ok.root in (omega (arith, (root-range (length q)).0), omega (arith, (root-range (length q)).1))))
      (λ z. let n = eqb-false v 0 z in
      let r = odd-range (length q) v (omega arith) in
      let b = ok.below v (omega arith) l in
      (omega (arith, r.0), omega (arith, r.1)))

  even-fits : (v : ℕ) → v < size q → (lowest (2 * v) ≤ kind_byte q v) × (kind_byte q v ≤ highest (length q) (2 * v))
  even-fits v l =
      let r = even-range (length q) (2 * v) (omega arith) in
      let low = ok.low v l in (
        omega (arith, r.0),
        cases (decided (eqb (2 * v + 2) (length q)))
            (λ z. let e = eqb-true (2 * v + 2) (length q) z in let t = end-task q ok v (omega (arith, ok.even)) in omega (arith, r.1.0 e))
            (λ z. let ne = eqb-false (2 * v + 2) (length q) z in let high = ok.high v l in omega (arith, r.1.1 ne)),
      )

  byte_fits_lem : (k : ℕ) → k < length q → (lowest k ≤ get_or q k 0) × (get_or q k 0 ≤ highest (length q) k)
  unfolding kind_byte parent
  byte_fits_lem k l =
      let v : k / 2 < size q = omega (arith, ok.even) in
      cases (decided (eqb (k % 2) 0))
      (λ z. let e = eqb-true (k % 2) 0 z in let s : k ≡ 2 * (k / 2) = omega arith in rw s (even-fits (k / 2) v))
      (λ z. let ne = eqb-false (k % 2) 0 z in let s : k ≡ 2 * (k / 2) + 1 = omega arith in rw s (odd-fits (k / 2) v))

  pub accepted-fits : Fits (length q) 0 q
  accepted-fits = fits_by (length q) 0 q (λ k l. rw (let z : 0 + k ≡ k = omega arith in z) (byte_fits_lem k l))

pub accepted-candidate : (q : List ℕ) → Accepted q → Candidate q
accepted-candidate q ok = record { fits = accepted-fits q ok; even = ok.even }

-- a byte of a list within the ranges
fits-at : (n i : ℕ) (l : List ℕ) → Fits n i l → (k : ℕ) → k < length l → (lowest (i + k) ≤ get_or l k 0) × (get_or l k 0 ≤ highest n (i + k))
fits-at n i (b ∷ l) (more low high f) zero m = rw (let z : i + 0 ≡ i = omega arith in z) (low, high)
fits-at n i (b ∷ l) (more low high f) (suc k) m = rw (let z : i + suc k ≡ suc i + k = omega arith in z) (fits-at n (suc i) l f k (omega arith))
fits-at n i [] f k m = absurd (omega arith)

pub byte_high : (n i : ℕ) → i < 512 → highest n i < 256
unfolding highest
byte_high n i l = cases (decided (eqb (i % 2) 0))
    (λ z. cases (decided (eqb (i + 2) n)) (λ y. rw (z, y) (omega arith)) (λ y. rw (z, y) (omega arith)))
    (λ z. cases (decided (eqb i 1)) (λ y. rw (z, y) (omega arith)) (λ y. rw (z, y) (omega arith)))

module _ (q : List ℕ) (c : Candidate q) where
  at : (k : ℕ) → k < length q → (lowest k ≤ get_or q k 0) × (get_or q k 0 ≤ highest (length q) k)
  at k l = rw (let z : 0 + k ≡ k = omega arith in z) at (fits-at (length q) 0 q c.fits k l)

  -- a kind byte is its kind's
  pub candidate-kind : (v : ℕ) → v < size q → kind_number (kind_of (kind_byte q v)) ≡ kind_byte q v
  unfolding kind_byte kind_number kind_of up_from
  candidate-kind v l =
      let h = at (2 * v) (omega (arith, c.even)) in
      let r = even-range (length q) (2 * v) (omega arith) in
      let high : highest (length q) (2 * v) ≤ 8 = cases (decided (eqb (2 * v + 2) (length q)))
      (λ z. omega (arith, r.1.0 (eqb-true (2 * v + 2) (length q) z)))
      (λ z. omega (arith, r.1.1 (eqb-false (2 * v + 2) (length q) z))) in
      between (λ b. kind_number (kind_of b)) (λ b. b) 1 8 refl (get_or q (2 * v) 0) (omega (arith, h.0, r.0)) (omega (arith, h.1, high))

  pub candidate-bytes : length q ≤ 12 → Bytes (2 * size q) q
  candidate-bytes few = record {
    long = c.even;
    small = λ i. cases (decided (ltb i (length q)))
        (λ z. let l = ltb-true i (length q) z in let h = (at i l).1 in let y = byte_high (length q) i (omega arith) in omega arith)
        (λ z. let e = get_or-eq_default q 0 (ltb-false i (length q) z) in omega arith);
  }

  pub candidate-below : (v : ℕ) → 0 < v → v < size q → parent q v < v
  unfolding parent
  candidate-below v some l = let h = (at (2 * v + 1) (omega (arith, c.even))).1 in omega (arith, (odd-range (length q) v some).1)

  pub candidate-ordered : 0 < size q → length q ≤ 12 → Ordered q
  candidate-ordered some few = record { some = some; few = omega (arith, c.even); below = candidate-below }
