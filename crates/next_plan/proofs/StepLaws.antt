-- From a candidate to the next, in an array of twelve bytes. Assumes nothing.
use mathlib.Core.Path.{◌≡◌, refl, ◌∙◌, ap}
use mathlib.Core.Bool.{Bool, true, false}
use mathlib.Core.List.{List, [], ◌∷◌, ◌++◌}
use mathlib.Core.Option.{Option, none, some}
use Prim.Native.Nat.{ℕ, zero, suc, ◌+◌, ◌*◌, ◌/◌, ◌≤◌, ◌<◌}
use native.Mathlib.Omega.{arith}
use lib.ListN.{length, take, drop, set, length-append, length-drop, length-set}
use lib.Seq.{length-take-le, take_at}
use Rattle.lists.proofs.Logic.{clash}
use Rattle.lists.specs.Smallest.{is_found}
use Rattle.next_plan.specs.Candidates.{lowest, Candidate, lows, advance, or_lows, following}
use Rattle.next_plan.proofs.CandidateLaws.{even-range, odd-range}
use Rattle.next_plan.proofs.AdvanceLaws.{lows-long, Advanced, advance-told}

-- two bytes more
lows-two : (i n : ℕ) → lows i (n + 2) ≡ lows i n ++ (lowest (i + n) ∷ lowest (i + n + 1) ∷ [])
unfolding lows lowest
lows-two i zero = rw (let z : zero + 2 ≡ suc (suc zero) = omega arith in z, (let z : i + 0 ≡ i = omega arith in z), (let z : i + 1 ≡ suc i = omega arith in z)) refl
lows-two i (suc n) = rw (let z : suc n + 2 ≡ suc (n + 2) = omega arith in z, lows-two (suc i) n, (let z : i + suc n ≡ suc i + n = omega arith in z)) refl

two-set : (s d : List ℕ) (a b : ℕ) → 2 ≤ length d → take (length s + 2) (set (set (s ++ d) (length s) a) (length s + 1) b) ≡ s ++ (a ∷ b ∷ [])
two-set [] (x ∷ y ∷ d) a b l = refl
two-set [] [] a b l = absurd (omega arith)
two-set [] (x ∷ []) a b l = absurd (omega arith)
two-set (c ∷ s) d a b l =
    rw (let z : suc (length s) + 2 ≡ suc (length s + 2) = omega arith in z, (let z : suc (length s) + 1 ≡ suc (length s + 1) = omega arith in z))
    (ap (λ t. c ∷ t) (two-set s d a b l))

-- from the candidate in the first n bytes of q; s is what an advance leaves there
module _ (k n : ℕ) (q s : List ℕ) (long : length q ≡ 12) (low : 0 < n) (few : n ≤ 10) (c : Candidate (take n q))
    (r : Bool) (told : r ≡ is_found (advance (length (take n q)) k 0 (take n q))) (left : s ≡ or_lows (advance (length (take n q)) k 0 (take n q)) (length (take n q))) where
  front : length (take n q) ≡ n
  front = length-take-le n q (omega arith)

  pub step_same : r ≡ true → (n ≤ 12) × (take n (s ++ drop n q) ≡ following k (take n q))
  unfolding is_found or_lows following Advanced
  step_same e = go (advance (length (take n q)) k 0 (take n q)) refl (advance-told (length (take n q)) k 0 (take n q) c.fits)
    where
      go : (o : Option (List ℕ)) → advance (length (take n q)) k 0 (take n q) ≡ o → Advanced (length (take n q)) k 0 (take n q) o → (n ≤ 12) × (take n (s ++ drop n q) ≡ following k (take n q))
      go (some a) is t =
          let l : s ≡ a = rw is at left in
          (omega arith, take_at s (drop n q) n (ap length l ∙ t.long ∙ front) ∙ l ∙ rw is refl)
      go none is t = clash r e (rw is at told)

  step_room : r ≡ false → length s ≡ n
  unfolding is_found or_lows
  step_room e = go (advance (length (take n q)) k 0 (take n q)) refl
    where
      go : (o : Option (List ℕ)) → advance (length (take n q)) k 0 (take n q) ≡ o → length s ≡ n
      go (some a) is = clash r (rw is at told) e
      go none is = let l : s ≡ lows 0 (length (take n q)) = rw is at left in ap length l ∙ lows-long 0 (length (take n q)) ∙ front

  pub step-space : r ≡ false → (a : ℕ) → n + 1 < length (set (s ++ drop n q) n a)
  step-space e a = omega (arith, length-set (s ++ drop n q) n a, length-append s (drop n q), step_room e, length-drop n q)

  kind-lowest : lowest (0 + n) ≡ 1
  kind-lowest = (even-range n (0 + n) (omega (arith, front, c.even))).0

  parent-lowest : lowest (0 + n + 1) ≡ 0
  parent-lowest = rw (let z : 0 + n + 1 ≡ 2 * (n / 2) + 1 = omega (arith, front, c.even) in z) (odd-range n (n / 2) (omega (arith, front, c.even))).0

  pub step-longer : r ≡ false → (n + 2 ≤ 12) × (take (n + 2) (set (set (s ++ drop n q) n 1) (n + 1) 0) ≡ following k (take n q))
  unfolding is_found or_lows following
  step-longer e = go (advance (length (take n q)) k 0 (take n q)) refl
    where
      room : 2 ≤ length (drop n q)
      room = omega (arith, length-drop n q)

      written : take (n + 2) (set (set (s ++ drop n q) n 1) (n + 1) 0) ≡ s ++ (1 ∷ 0 ∷ [])
      written = rw (← step_room e) (two-set s (drop (length s) q) 1 0 (rw (step_room e) room))

      go : (o : Option (List ℕ)) → advance (length (take n q)) k 0 (take n q) ≡ o → (n + 2 ≤ 12) × (take (n + 2) (set (set (s ++ drop n q) n 1) (n + 1) 0) ≡ following k (take n q))
      go (some a) is = clash r (rw is at told) e
      go none is =
          let l : s ≡ lows 0 (length (take n q)) = rw is at left in
          (omega arith, written ∙ rw (l, is) (rw (front, lows-two 0 n, kind-lowest, parent-lowest) refl))
