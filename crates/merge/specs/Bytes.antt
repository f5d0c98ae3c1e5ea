-- Byte by byte: which bits a node's byte may have, and how many are new (rules V11, V12); only private functions' contracts cite it.
-- Definitions only.
use Rattle.std.specs.Prelude.{Bool, ◌&&◌, ◌||◌, not, List, ℕ, eqb, length, get_or}
use Rattle.std.specs.Int.Bits.{bit_and}
use Rattle.lists.specs.Seq.{all, keep, up_from, sum_below}
use Rattle.event.specs.Event.{event_of, applies}
use Rattle.event.specs.Bit.{has_bit}

-- V12, H9: each bit of the byte b of node v is an event that applies to v
unfoldable pub byte_applies : List ℕ → ℕ → ℕ → Bool
byte_applies p v b = all (λ code. not (has_bit b code) || applies p (event_of code v)) (up_from 1 8)

-- V12, B2: the same by the node's place: x, it is a child of an xor; q, it is a conditional
unfoldable pub byte_fits : Bool → Bool → ℕ → Bool
byte_fits x q b = (x || eqb (bit_and b 0xc2) 0) && (q || eqb (bit_and b 0x30) 0)

-- V12: how many bits y has that x has not
unfoldable pub new_bits : ℕ → ℕ → ℕ
new_bits x y = length (keep (λ code. has_bit y code && not (has_bit x code)) (up_from 1 8))

-- V12: and so in the first n bytes of two rows
unfoldable pub new_below : List ℕ → List ℕ → ℕ → ℕ
new_below row other n = sum_below (λ v. new_bits (get_or row v 0) (get_or other v 0)) n
