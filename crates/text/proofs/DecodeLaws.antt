-- Laws of decoding: what is left of a line, or of the lines, gives what the whole gives. Assumes nothing.
use mathlib.Core.Path.{◌≡◌, refl, sym, ◌∙◌, ap}
use mathlib.Core.Bool.{true}
use mathlib.Core.List.{List, [], ◌∷◌, ◌++◌, flatten}
use Prim.Native.Nat.{ℕ, zero, suc, ◌+◌, ◌*◌, ◌≤◌, ◌<◌}
use native.Mathlib.Nat.{sub-zero}
use native.Mathlib.Omega.{arith}
use borrow.Author.Tests.{le-leb, lt-leb}
use lib.ListN.{length, get_or, drop, set, length-append, length-drop}
use lib.Seq.{drop-drop}
use Rattle.lists.specs.Seq.{table}
use Rattle.lists.specs.Put.{Put}
use Rattle.lists.proofs.Logic.{cases, decided}
use Rattle.lists.proofs.Table.{table-length}
use Rattle.lists.proofs.PutLaws.{Left, table_from, left-all, left-none, left-put, table-turn, table-out, put_front_lem}
use Rattle.text.specs.Hex.{value_of, is_line, line_byte, line_bytes}
use Rattle.text.specs.Text.{lines_within, lines}
use Rattle.text.specs.Calls.{in_front}
use Rattle.text.proofs.HexLaws.{line-long}
use Rattle.text.proofs.TextLaws.{rest, rest-is, lines_none, lines-some, lines_fit}

-- two digits make a byte: a and b stand there, x and y are their values
module _ (t : List ℕ) (i : ℕ) where
  pub byte-by : {a b x y : ℕ} → a ≡ get_or t (2 * i) 0 → x ≡ value_of a → b ≡ get_or t (2 * i + 1) 0 → y ≡ value_of b → x * 16 + y ≡ line_byte t i
  unfolding line_byte
  byte-by d e f g = rw (e, g, d, f)

pub line-length : (k : ℕ) (t : List ℕ) → length (line_bytes k t) ≡ k
unfolding line_bytes
line-length k t = table-length (line_byte t) k

-- the bytes of a line, of which i stand in the buffer
pub record LineLeft (k : ℕ) (t b₀ : List ℕ) (at : ℕ) (b : List ℕ) (w i : ℕ) : Type 0 where
  pub within : i ≤ k
  pub left : Left (table_from (line_byte t) k i) (line_bytes k t) b₀ at b w

pub line-all : (k : ℕ) (t b : List ℕ) (at : ℕ) {w : ℕ} → w ≡ at → LineLeft k t b at b w 0
unfolding line_bytes table
line-all k t b at e = record { within = omega arith; left = rw (sub-zero, e) (left-all (table (line_byte t) k) b at) }

module _ {k : ℕ} {t b₀ : List ℕ} {at : ℕ} {b : List ℕ} {w i : ℕ} (h : LineLeft k t b₀ at b w i) where
  pub line-turn : {x w' : ℕ} → x ≡ line_byte t i → i < k → w' ≡ w + 1 → LineLeft k t b₀ at (set b w x) w' (i + 1)
  line-turn e l f = record { within = omega arith; left = rw (e, f) (table-turn (line_byte t) k i l h.left) }

  pub line-done : {w' : ℕ} → k ≤ i → w' ≡ w → Put (line_bytes k t) b₀ at b w'
  line-done l f = rw f (table-out (line_byte t) k i l h.left)

none : (ls : List (List ℕ)) → length ls ≡ 0 → ls ≡ []
none [] e = refl
none (l ∷ ls) e = absurd (omega arith)

within-length : (n k : ℕ) (t : List ℕ) → length (flatten (lines_within n k t)) ≡ k * length (lines_within n k t)
unfolding lines_within flatten
within-length zero k t = omega arith
within-length (suc n) k t = cases (decided (is_line k t))
    (λ e. rw e (omega (arith, within-length n k (drop (2 * k + 1) t), length-append (line_bytes k t) (flatten (lines_within n k (drop (2 * k + 1) t))), line-length k t)))
    (λ e. rw e (omega arith))

pub lines-length : (k : ℕ) (t : List ℕ) → length (flatten (lines k t)) ≡ k * length (lines k t)
unfolding lines
lines-length k t = within-length (length t) k t

-- n lines
module _ (k : ℕ) (t : List ℕ) (n : ℕ) (e : n ≡ length (lines k t)) where
  whole : length (flatten (lines k t)) ≡ k * n
  whole = lines-length k t ∙ ap (λ m. k * m) (sym e)

  pub lines-few : k * n ≤ length t
  lines-few = rw e (omega (arith, lines_fit k t))

  pub lines-short : (b : List ℕ) → length b < k * n → b ≡ in_front (flatten (lines k t)) b
  unfolding in_front
  lines-short b l = rw (lt-leb (length (flatten (lines k t))) (length b) (omega (arith, l, whole)))

-- the lines, of which i of n stand in the buffer and the others in the text from `at` on
pub record LinesLeft (k : ℕ) (t : List ℕ) (n : ℕ) (b₀ : List ℕ) (at : ℕ) (b : List ℕ) (w i : ℕ) : Type 0 where
  pub total : n ≡ length (lines k t)
  pub count : n ≡ i + length (lines k (drop at t))
  pub within : at ≤ length t
  pub left : Left (flatten (lines k (drop at t))) (flatten (lines k t)) b₀ 0 b w

pub lines-all : (k : ℕ) (t : List ℕ) (n : ℕ) (b : List ℕ) → n ≡ length (lines k t) → LinesLeft k t n b 0 b 0 0
lines-all k t n b e = record { total = e; count = omega arith; within = omega arith; left = left-all (flatten (lines k t)) b 0 }

module _ {k : ℕ} {t : List ℕ} {n : ℕ} {b₀ : List ℕ} {at : ℕ} {b : List ℕ} {w i : ℕ} (h : LinesLeft k t n b₀ at b w i) where
  module _ (l : i < n) where
    next : is_line k (drop at t) ≡ true
    next = cases (decided (is_line k (drop at t))) (λ e. e) (λ e. absurd (omega (arith, h.count, ap length (lines_none k (drop at t) e))))

    split : lines k (drop at t) ≡ line_bytes k (drop at t) ∷ lines k (drop (at + (2 * k + 1)) t)
    split = lines-some k (drop at t) next ∙ ap (λ s. line_bytes k (drop at t) ∷ lines k s) (drop-drop (2 * k + 1) at t)

    front : Left (line_bytes k (drop at t) ++ flatten (lines k (drop (at + (2 * k + 1)) t))) (flatten (lines k t)) b₀ 0 b w
    unfolding flatten
    front = rw split at h.left

    pub next-room : at + (2 * k + 1) ≤ length t
    next-room = omega (arith, h.within, line-long k (drop at t) next, length-drop at t)

    pub lines-room : k * n ≤ length b₀ → w + k ≤ length b
    lines-room r =
        omega (
          arith,
          r,
          front.place,
          front.long,
          whole k t n h.total,
          line-length k (drop at t),
          length-append (line_bytes k (drop at t)) (flatten (lines k (drop (at + (2 * k + 1)) t))),
        )

    pub lines-turn : {b' : List ℕ} {w' : ℕ} → Put (line_bytes k (rest t at)) b w b' w' → LinesLeft k t n b₀ (at + (2 * k + 1)) b' w' (i + 1)
    lines-turn p =
        record {
          total = h.total;
          count = omega (arith, h.count, ap length split);
          within = next-room;
          left = left-put (line_bytes k (drop at t)) (flatten (lines k (drop (at + (2 * k + 1)) t))) front (rw (rest-is t at) at p);
        }

  pub lines-done : k * n ≤ length b₀ → n ≤ i → b ≡ in_front (flatten (lines k t)) b₀
  unfolding in_front flatten
  lines-done r l =
      let z : length (lines k (drop at t)) ≡ 0 = omega (arith, h.count) in
      let m : length (flatten (lines k t)) ≤ length b₀ = omega (arith, r, whole k t n h.total) in
      rw (le-leb (length (flatten (lines k t))) (length b₀) m)
      ((left-none {w = w} (rw (none (lines k (drop at t)) z) at h.left)).held ∙ put_front_lem (flatten (lines k t)) b₀ m)
