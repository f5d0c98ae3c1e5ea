-- A site's row (rule B5): what it has heard, and an event set in it. Definitions only.
use Rattle.std.specs.Prelude.{Bool, List, ℕ, get_or, set}
use Rattle.event.specs.Event.{Event, code_number}
use Rattle.event.specs.Bit.{has_bit, with_bit, without_bit}

-- B5: by a code's number and a node's
unfoldable pub heard_in : List ℕ → ℕ → ℕ → Bool
heard_in row code node = has_bit (get_or row node 0) code

unfoldable pub heard : List ℕ → Event → Bool
heard row e = heard_in row (code_number e.code) e.node

-- B5: the row with an event set
unfoldable pub hear : List ℕ → ℕ → ℕ → List ℕ
hear row code node = set row node (with_bit (get_or row node 0) code)

-- L3: the row with an event cleared
unfoldable pub unhear : List ℕ → ℕ → ℕ → List ℕ
unhear row code node = set row node (without_bit (get_or row node 0) code)
