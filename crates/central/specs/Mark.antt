-- Marks (rules B6 and E8). Definitions only.
use Rattle.std.specs.Prelude.{Bool, cond, ℕ, eqb}

-- B6: the six marks
pub data Mark : Type 0 where
  idle running offered committed failed turned_down : Mark

-- B6: a mark's number
unfoldable pub mark_number : Mark → ℕ
mark_number idle = 0
mark_number running = 1
mark_number offered = 2
mark_number committed = 3
mark_number failed = 4
mark_number turned_down = 5

-- B6: m and n are the same mark
unfoldable pub is_mark : Mark → Mark → Bool
is_mark m n = eqb (mark_number m) (mark_number n)

-- E10: the mark of a byte; one above 5 is read as 5
unfoldable pub mark_of : ℕ → Mark
mark_of b =
    cond (eqb b 0) idle
    (cond (eqb b 1) running
    (cond (eqb b 2) offered
    (cond (eqb b 3) committed
    (cond (eqb b 4) failed turned_down))))
