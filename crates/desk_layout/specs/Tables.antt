-- How a plan with desks is prepared: its plain plan and the two tables of its layout, in arrays. Contracts cite this. Definitions only.
use Rattle.std.specs.Prelude.{◌≡◌, Bool, cond, List, ℕ, ◌*◌, eqb, ltb, length, get_or, take}
use Rattle.lists.specs.Seq.{keep, up_from, table}
use Rattle.desks.specs.Desk.{nodes, desk_of, plain, DeskAccepted, used, used_below, desk_rows}

-- N3: a desk in use is marked by 0
unfoldable pub is_marked : List ℕ → ℕ → Bool
is_marked fs d = eqb (get_or fs d 0) 0

-- N3: how many desks below n are marked
unfoldable pub marked_below : List ℕ → ℕ → ℕ
marked_below fs n = length (keep (is_marked fs) (up_from 0 n))

-- N3: the marks of desks below n made their rows; other bytes stay
unfoldable pub numbered_byte : List ℕ → ℕ → ℕ → ℕ
numbered_byte fs n d = cond (ltb d n) (cond (is_marked fs d) (marked_below fs d) (get_or fs d 0)) (get_or fs d 0)

-- N3: desk d's mark, and its byte in the table of rows; 255 is no row
unfoldable pub mark_of : List ℕ → ℕ → ℕ
mark_of p d = cond (used p d) 0 255

unfoldable pub row_byte : List ℕ → ℕ → ℕ
row_byte p d = cond (used p d) (used_below p d) 255

-- N1 to N4: what is prepared: the plain plan in front, the number of rows, every node's row, and every desk's
pub record Prepared (p : List ℕ) (rows : ℕ) (two home row : List ℕ) : Type 0 where
  pub accepted : DeskAccepted p
  pub front : take (2 * nodes p) two ≡ plain p
  pub count : rows ≡ desk_rows p
  pub homes : take (nodes p) home ≡ table (λ v. row_byte p (desk_of p v)) (nodes p)
  pub named : row ≡ table (row_byte p) 256
