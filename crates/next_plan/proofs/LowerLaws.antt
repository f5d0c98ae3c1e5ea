-- The loop that goes back from the last byte: what is behind it is the least, until a byte can be raised. Assumes nothing.
use mathlib.Core.Path.{◌≡◌, refl, sym, ◌∙◌, ap}
use mathlib.Core.Bool.{true, false, ◌&&◌}
use mathlib.Core.List.{List, [], ◌∷◌, ◌++◌, append-nil}
use mathlib.Core.Option.{none, some}
use Prim.Native.Nat.{ℕ, zero, suc, ◌+◌, ◌-◌, ◌≤◌, ◌<◌}
use native.Mathlib.Omega.{arith}
use lib.Dec.{ltb}
use lib.ListN.{length, get_or, set, take, drop, length-append, length-drop, length-set, get_or-append}
use lib.Seq.{length-take-le, take-length, drop-length, take-suc, drop-cons, append_snoc, get_or-take, set_at}
use Rattle.lists.specs.Smallest.{behind, or_else, is_found}
use Rattle.next_plan.specs.Candidates.{lowest, highest, lows, advance, or_lows}

-- from place i on nothing of l can be raised, and x has the least bytes there
pub record Lowered (n k : ℕ) (l x : List ℕ) (i : ℕ) : Type 0 where
  pub within : i ≤ length l
  pub long : length x ≡ length l
  is : x ≡ take i l ++ lows i (length l - i)
  still : advance n k i (drop i l) ≡ none

-- the place before
pub lowered-before : {n k : ℕ} {l x : List ℕ} (i : ℕ) → 0 < i → Lowered n k l x i → Lowered n k l x (suc (i - 1))
lowered-before i l h = rw (let z : suc (i - 1) ≡ i = omega arith in z) h

pub lowered-first : (n k : ℕ) (l : List ℕ) → Lowered n k l l (length l)
unfolding advance lows
lowered-first n k l = record {
  within = omega arith;
  long = refl;
  is = sym (ap (λ t. t ++ lows (length l) (length l - length l)) (take-length l) ∙ ap (λ m. l ++ lows (length l) m) (let z : length l - length l ≡ 0 = omega arith in z) ∙ append-nil l);
  still = ap (advance n k (length l)) (drop-length l);
}

-- an advance behind place i is one of the whole list
advance-front : (n k j i : ℕ) (l a : List ℕ) → i ≤ length l → advance n k (j + i) (drop i l) ≡ some a → advance n k j l ≡ some (take i l ++ a)
unfolding advance behind or_else
advance-front n k j zero l a m e = rw (let z : j + 0 ≡ j = omega arith in z) at e
advance-front n k j (suc i) (b ∷ l) a m e =
    rw (advance-front n k (suc j) i l a (omega arith) (rw (let z : j + suc i ≡ suc j + i = omega arith in z) at e)) refl
advance-front n k j (suc i) [] a m e = absurd (omega arith)

-- at the byte before place suc i
module _ (n k : ℕ) (l x : List ℕ) (i : ℕ) (h : Lowered n k l x (suc i)) where
  inside : i < length l
  inside = let w = h.within in omega arith

  rest : List ℕ
  rest = lows (suc i) (length l - suc i)

  split : x ≡ take i l ++ (get_or l i 0 ∷ rest)
  unfolding rest
  split = h.is ∙ ap (λ t. t ++ rest) (take-suc l i 0 inside) ∙ append_snoc (take i l) (get_or l i 0) rest

  front_long : length (take i l) ≡ i
  front_long = length-take-le i l (omega (arith, inside))

  pub lowered-room : i < length x
  lowered-room = omega (arith, ap length split, length-append (take i l) (get_or l i 0 ∷ rest), front_long)

  lowered-byte : get_or x i 0 ≡ get_or l i 0
  lowered-byte = ap (λ t. get_or t i 0) h.is ∙ get_or-append (take (suc i) l) (lows (suc i) (length l - suc i)) 0 i (omega (arith, length-take-le (suc i) l h.within)) ∙ get_or-take (suc i) l i 0 (omega arith)

  written : (c : ℕ) → set x i c ≡ take i l ++ (c ∷ rest)
  written c = ap (λ t. set t i c) split ∙ set_at (take i l) (get_or l i 0) rest c i front_long

  rest-long : length (drop (suc i) l) ≡ length l - suc i
  rest-long = length-drop (suc i) l

  -- it is raised
  pub raised : (ltb i k && ltb (get_or x i 0) (highest n i)) ≡ true → advance n k 0 l ≡ some (set x i (get_or x i 0 + 1))
  unfolding advance behind or_else rest
  raised t =
      let u : (ltb i k && ltb (get_or l i 0) (highest n i)) ≡ true = rw lowered-byte at t in
      let here : advance n k i (get_or l i 0 ∷ drop (suc i) l) ≡ some ((get_or l i 0 + 1) ∷ lows (suc i) (length (drop (suc i) l))) = rw (h.still, u) refl in
      advance-front n k 0 i l _ (omega (arith, inside)) (rw (let z : 0 + i ≡ i = omega arith in z) (ap (advance n k i) (drop-cons l i 0 inside) ∙ here))
      ∙ ap some (ap (λ m. take i l ++ ((get_or l i 0 + 1) ∷ lows (suc i) m)) rest-long ∙ ap (λ b. take i l ++ ((b + 1) ∷ rest)) (sym lowered-byte) ∙ sym (written (get_or x i 0 + 1)))

  -- or not, and becomes the least
  pub lowered-turn : (ltb i k && ltb (get_or x i 0) (highest n i)) ≡ false → Lowered n k l (set x i (lowest i)) i
  unfolding advance behind or_else lows rest
  lowered-turn t =
      let u : (ltb i k && ltb (get_or l i 0) (highest n i)) ≡ false = rw lowered-byte at t in
      record {
        within = omega (arith, inside);
        long = length-set x i (lowest i) ∙ h.long;
        is = written (lowest i) ∙ ap (λ t. take i l ++ t) (sym (ap (lows i) (let z : length l - i ≡ suc (length l - suc i) = omega (arith, inside) in z)));
        still = ap (advance n k i) (drop-cons l i 0 inside) ∙ rw (h.still, u) refl;
      }

-- what the function answers and leaves
pub raised-found : (n k : ℕ) (l a : List ℕ) → advance n k 0 l ≡ some a → (true ≡ is_found (advance n k 0 l)) × (a ≡ or_lows (advance n k 0 l) (length l))
unfolding is_found or_lows
raised-found n k l a e = (rw e refl, rw e refl)

pub lowered-done : (n k : ℕ) (l x : List ℕ) (i : ℕ) → Lowered n k l x i → i ≡ 0 → (false ≡ is_found (advance n k 0 l)) × (x ≡ or_lows (advance n k 0 l) (length l))
unfolding is_found or_lows
lowered-done n k l x i h e =
    let f : Lowered n k l x 0 = rw e at h in
    (rw f.still refl, rw f.still (f.is ∙ ap (lows 0) (let z : length l - 0 ≡ length l = omega arith in z)))
