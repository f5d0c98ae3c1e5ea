-- Laws of printing a line: the digits that are left give what the whole line gives. Assumes nothing.
use mathlib.Core.Path.{◌≡◌, sym, ap}
use mathlib.Core.List.{List, [], ◌∷◌}
use Prim.Native.Nat.{ℕ, ◌+◌, ◌*◌, ◌/◌, ◌%◌, ◌≤◌, ◌<◌}
use native.Mathlib.Omega.{arith}
use borrow.Author.Tests.{le-leb, lt-leb}
use lib.ListN.{length, get_or, drop, set, length-drop, drop_of_length-le}
use Rattle.lists.specs.Put.{Put}
use Rattle.lists.proofs.PutLaws.{Left, left-all, left-none, left-put, put_one, put_two, drop-turn}
use Rattle.text.specs.Hex.{digit_of, hex_line}
use Rattle.text.specs.Calls.{printing, line_into}

pub hex-length : (bs : List ℕ) → length (hex_line bs) ≡ 2 * length bs + 1
unfolding hex_line
hex-length [] = omega arith
hex-length (b ∷ bs) = omega (arith, hex-length bs)

-- the line, of which i bytes stand in the buffer
pub record HexLeft (bs b₀ : List ℕ) (at : ℕ) (b : List ℕ) (w i : ℕ) : Type 0 where
  pub within : i ≤ length bs
  pub left : Left (hex_line (drop i bs)) (hex_line bs) b₀ at b w

pub hex-all : (bs b : List ℕ) (at : ℕ) → HexLeft bs b at b at 0
hex-all bs b at = record { within = omega arith; left = left-all (hex_line bs) b at }

module _ {bs b₀ : List ℕ} {at : ℕ} {b : List ℕ} {w i : ℕ} (h : HexLeft bs b₀ at b w i) where
  pub hex-place : w ≡ at + 2 * i
  hex-place = omega (arith, h.within, h.left.place, hex-length bs, hex-length (drop i bs), length-drop i bs)

  pub hex-turn : {x y : ℕ} → x ≡ digit_of (get_or bs i 0 / 16) → y ≡ digit_of (get_or bs i 0 % 16) → i < length bs →
      HexLeft bs b₀ at (set (set b w x) (w + 1) y) (w + 2) (i + 1)
  unfolding hex_line
  hex-turn {x} {y} e f l =
      record {
        within = omega arith;
        left = left-put (x ∷ y ∷ []) (hex_line (drop (i + 1) bs)) (rw (e, f) (rw (drop-turn bs i l) at h.left)) (put_two x y b w);
      }

  pub hex-done : length bs ≤ i → Put (hex_line bs) b₀ at (set b w 10) (w + 1)
  unfolding hex_line
  hex-done l = left-none (left-put (10 ∷ []) [] (rw (drop_of_length-le bs l) at h.left) (put_one 10 b w))

-- the answer
module _ (bs b : List ℕ) (w : ℕ) where
  pub line-not : length b < w + (2 * length bs + 1) → line_into bs b w ≡ printing w b
  unfolding line_into
  line-not l = rw (lt-leb (w + length (hex_line bs)) (length b) (omega (arith, l, hex-length bs)))

  pub line-put : {b' : List ℕ} {w' : ℕ} → w + (2 * length bs + 1) ≤ length b → Put (hex_line bs) b w b' w' → line_into bs b w ≡ printing w' b'
  unfolding line_into
  line-put l h = rw (le-leb (w + length (hex_line bs)) (length b) (omega (arith, l, hex-length bs)), h.place, h.held)

  -- and back
  pub put-by : {b' : List ℕ} {w' : ℕ} → w + (2 * length bs + 1) ≤ length b → line_into bs b w ≡ printing w' b' → Put (hex_line bs) b w b' w'
  unfolding line_into
  put-by l h =
      let q = rw (le-leb (w + length (hex_line bs)) (length b) (omega (arith, l, hex-length bs))) at h in
      record { place = sym (ap (λ p. p.place) q); held = sym (ap (λ p. p.buffer) q) }
