-- Laws of writing: a loop's invariant is that what is left to write gives what the whole gives. Assumes nothing.
use mathlib.Core.Path.{◌≡◌, refl, sym, ap, ◌∙◌}
use mathlib.Core.List.{List, [], ◌∷◌, ◌++◌, map}
use Prim.Native.Nat.{ℕ, suc, ◌+◌, ◌-◌, ◌<◌, ◌≤◌}
use native.Mathlib.Nat.{zero-add, add-zero, add-suc, suc-add, sub-eq-zero_of_le}
use native.Mathlib.Numerals.{add-one}
use native.Mathlib.Omega.{arith}
use lib.ListN.{length, length-append, set, drop, get_or}
use lib.Seq.{sets, sets-eq, length-sets, drop-cons}
use Rattle.lists.specs.Seq.{up_from}
use Rattle.lists.specs.Put.{Put}
use Rattle.lists.proofs.Keep.{up_step}

sets-append : (a b l : List ℕ) (i : ℕ) → sets l i (a ++ b) ≡ sets (sets l i a) (i + length a) b
sets-append [] b l i = rw add-zero
sets-append (x ∷ a) b l i = sets-append a b (set l i x) (suc i) ∙ rw (suc-add, add-suc)

-- one byte, two bytes
pub put_one : (a : ℕ) (b : List ℕ) (w : ℕ) → Put (a ∷ []) b w (set b w a) (w + 1)
put_one a b w = record { place = omega arith; held = refl }

pub put_two : (a c : ℕ) (b : List ℕ) (w : ℕ) → Put (a ∷ c ∷ []) b w (set (set b w a) (w + 1) c) (w + 2)
put_two a c b w = record { place = omega arith; held = rw add-one }

pub put-append : (x y b : List ℕ) (w : ℕ) {b' : List ℕ} {w' : ℕ} {b'' : List ℕ} {w'' : ℕ} → Put x b w b' w' → Put y b' w' b'' w'' → Put (x ++ y) b w b'' w''
put-append x y b w {w' = w'} h k =
    record {
      place = omega (arith, h.place, k.place, length-append x y);
      held = k.held ∙ ap (λ l. sets l w' y) h.held ∙ ap (λ n. sets (sets b w x) n y) h.place ∙ sym (sets-append x y b w);
    }

pub put-length : {x b : List ℕ} {w : ℕ} {b' : List ℕ} {w' : ℕ} → Put x b w b' w' → length b' ≡ length b
put-length {x} {b} {w} h = ap length h.held ∙ length-sets b w x

-- at the front of a buffer with room for it
pub put_front_lem : (x b : List ℕ) → length x ≤ length b → sets b 0 x ≡ x ++ drop (length x) b
put_front_lem x b l = sets-eq x b 0 (rw zero-add l) ∙ rw zero-add

-- a loop has written the whole up to `rest`: b₀ and w₀ as it began, b and w now
pub record Left (rest whole b₀ : List ℕ) (w₀ : ℕ) (b : List ℕ) (w : ℕ) : Type 0 where
  pub place : w + length rest ≡ w₀ + length whole
  pub held : sets b w rest ≡ sets b₀ w₀ whole
  pub long : length b ≡ length b₀

pub left-all : (x b : List ℕ) (w : ℕ) → Left x x b w b w
left-all x b w = record { place = refl; held = refl; long = refl }

pub left-none : {whole b₀ : List ℕ} {w₀ : ℕ} {b : List ℕ} {w : ℕ} → Left [] whole b₀ w₀ b w → Put whole b₀ w₀ b w
left-none h = record { place = omega (arith, h.place); held = h.held }

pub left-put : (x rest : List ℕ) {whole b₀ : List ℕ} {w₀ : ℕ} {b : List ℕ} {w : ℕ} {b' : List ℕ} {w' : ℕ} → Left (x ++ rest) whole b₀ w₀ b w → Put x b w b' w' → Left rest whole b₀ w₀ b' w'
left-put x rest {b = b} {w = w} {w' = w'} h k =
    record {
      place = omega (arith, h.place, k.place, length-append x rest);
      held = ap (λ l. sets l w' rest) k.held ∙ ap (λ n. sets (sets b w x) n rest) k.place ∙ sym (sets-append x rest b w) ∙ h.held;
      long = put-length k ∙ h.long;
    }

-- the entries of f's table of n from i on
abbrev pub table_from : (ℕ → ℕ) → ℕ → ℕ → List ℕ
table_from f n i = map f (up_from i (n - i))

-- a turn at i
pub drop-turn : (s : List ℕ) (i : ℕ) → i < length s → drop i s ≡ get_or s i 0 ∷ drop (i + 1) s
drop-turn s i l = drop-cons s i 0 l ∙ rw add-one

-- a table, written entry by entry
pub table-turn : (f : ℕ → ℕ) (n i : ℕ) {whole b₀ : List ℕ} {w₀ : ℕ} {b : List ℕ} {w : ℕ} → i < n → Left (table_from f n i) whole b₀ w₀ b w →
    Left (table_from f n (i + 1)) whole b₀ w₀ (set b w (f i)) (w + 1)
table-turn f n i {b = b} {w = w} l h = left-put (f i ∷ []) (table_from f n (i + 1)) (rw (up_step i n l) at h) (put_one (f i) b w)

pub table-out : (f : ℕ → ℕ) (n i : ℕ) {whole b₀ : List ℕ} {w₀ : ℕ} {b : List ℕ} {w : ℕ} → n ≤ i → Left (table_from f n i) whole b₀ w₀ b w → Put whole b₀ w₀ b w
unfolding up_from
table-out f n i l h = left-none (rw (sub-eq-zero_of_le l) at h)
