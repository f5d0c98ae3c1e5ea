-- Worked calls of points (rules M1 to M4): what is lent, what is asked, its number, and what is left. Assumes nothing.
use mathlib.Core.Path.{◌≡◌, refl}
use mathlib.Core.Bool.{cond}
use mathlib.Core.List.{List, [], ◌∷◌, ◌++◌, map}
use Prim.Native.Nat.{ℕ, suc, ◌-◌}
use lib.ListN.{length, replicate}
use Rattle.lists.specs.Seq.{all_below, up_from, table}
use Rattle.points.specs.Points.{Points, points, same_name, first_slot, slot_of, free_slot, none_past, named_once, points_fit, name_fits, name_of, dropped}

-- a name, by its first byte and its last
called : ℕ → ℕ → List ℕ
called a b = (a ∷ replicate 6 9) ++ (b ∷ [])

pub record Slot : Type 0 where
  pub name : List ℕ
  pub word : ℕ

-- a point at a place; a free slot with the bytes of a name, and one of zeros
point : ℕ → ℕ → ℕ → Slot
point a b n = record { name = called a b; word = suc n }

unused : ℕ → ℕ → Slot
unused a b = record { name = called a b; word = 0 }

zeros : Slot
zeros = record { name = replicate 8 0; word = 0 }

bytes : List Slot → List ℕ
bytes [] = []
bytes (s ∷ ss) = s.name ++ bytes ss

-- these slots, and zeros in the others of the sixteen
sixteen : List Slot → List Slot
sixteen ss = ss ++ replicate (16 - length ss) zeros

slots : List Slot → Points
slots ss = points (bytes (sixteen ss)) (map (λ (s : Slot). s.word) (sixteen ss))

-- n points of other names, at place 3
several : ℕ → List Slot
several n = map (λ i. point i 1 3) (up_from 1 n)

pub data Call : Type 0 where
  fit : ℕ → Call
  name : List ℕ → ℕ → Call
  drop : ℕ → Call

pub record Result : Type 0 where
  pub number : ℕ
  pub left : Points

pub record Case : Type 0 where
  pub lent : Points
  pub call : Call
  pub result : Result

case : Points → Call → ℕ → Points → Case
case p c n q = record { lent = p; call = c; result = record { number = n; left = q } }

-- one that leaves all
same : Points → Call → ℕ → Case
same p c n = case p c n p

-- points that do not fit are 7; dropping answers nothing
pub result_of : Points → Call → Result
result_of p (fit k) = record { number = cond (points_fit p.names p.places k) 0 7; left = p }
result_of p (name c k) = record { number = (name_of c k p.names p.places).number; left = (name_of c k p.names p.places).left }
result_of p (drop k) = record { number = 0; left = dropped k p.names p.places }

pub cases : List Case
cases =
    -- M2: the lengths, in bytes and in words
    same (slots []) (fit 0) 0
    ∷ same (points (replicate 127 0) (replicate 16 0)) (fit 0) 7
    ∷ same (points (replicate 129 0) (replicate 16 0)) (fit 0) 7
    ∷ same (points (replicate 128 0) (replicate 15 0)) (fit 0) 7
    ∷ same (points (replicate 128 0) (replicate 17 0)) (fit 0) 7
    -- a point at the count, and one past it, also in the last slot
    ∷ same (slots (point 1 1 5 ∷ [])) (fit 5) 0
    ∷ same (slots (point 1 1 5 ∷ [])) (fit 4) 7
    ∷ same (slots (several 15 ++ (point 16 1 5 ∷ []))) (fit 4) 7
    -- two of one name, also in the last slot; names that differ in one byte; a free slot with the bytes of a point's name
    ∷ same (slots (point 1 1 5 ∷ point 1 1 3 ∷ [])) (fit 5) 7
    ∷ same (slots (several 15 ++ (point 1 1 5 ∷ []))) (fit 5) 7
    ∷ same (slots (point 1 1 5 ∷ point 1 2 5 ∷ point 2 1 5 ∷ [])) (fit 5) 0
    ∷ same (slots (unused 1 1 ∷ point 1 1 5 ∷ unused 1 1 ∷ [])) (fit 5) 0
    -- M3: the same points are 7, and so are a name that has not 8 bytes, and the count for which no word can stand
    ∷ same (points (replicate 127 0) (replicate 16 0)) (name (called 1 1) 0) 7
    ∷ same (points (replicate 128 0) (replicate 15 0)) (name (called 1 1) 0) 7
    ∷ same (slots (point 1 1 5 ∷ [])) (name (called 1 1) 4) 7
    ∷ same (slots (point 1 1 5 ∷ point 1 1 3 ∷ [])) (name (called 1 1) 5) 7
    ∷ same (slots []) (name (replicate 7 1) 0) 7
    ∷ same (slots []) (name (replicate 9 1) 0) 7
    ∷ same (slots []) (name (called 1 1) 18446744073709551615) 7
    ∷ case (slots []) (name (called 1 1) 18446744073709551614) 0 (slots (point 1 1 18446744073709551614 ∷ []))
    -- a new name takes the first free slot, also the last of the sixteen, and then there is none
    ∷ case (slots []) (name (called 1 1) 0) 0 (slots (point 1 1 0 ∷ []))
    ∷ case (slots (point 1 1 3 ∷ unused 7 7 ∷ point 2 1 4 ∷ [])) (name (called 1 2) 6) 0 (slots (point 1 1 3 ∷ point 1 2 6 ∷ point 2 1 4 ∷ []))
    ∷ case (slots (several 15)) (name (called 16 1) 6) 0 (slots (several 15 ++ (point 16 1 6 ∷ [])))
    ∷ same (slots (several 16)) (name (called 17 1) 6) 20
    ∷ same (slots (several 16)) (name (called 17 1) 2) 7
    -- a known name moves in its slot, with slots free before it, and with none; a free slot's bytes are no name
    ∷ case (slots (zeros ∷ point 2 1 4 ∷ point 1 1 3 ∷ [])) (name (called 1 1) 6) 0 (slots (zeros ∷ point 2 1 4 ∷ point 1 1 6 ∷ []))
    ∷ case (slots (unused 1 1 ∷ point 1 1 3 ∷ [])) (name (called 1 1) 6) 0 (slots (unused 1 1 ∷ point 1 1 6 ∷ []))
    ∷ case (slots (several 15 ++ (point 16 1 3 ∷ []))) (name (called 16 1) 6) 0 (slots (several 15 ++ (point 16 1 6 ∷ [])))
    ∷ case (slots (point 1 1 3 ∷ [])) (name (called 1 1) 3) 0 (slots (point 1 1 3 ∷ []))
    -- M4: a point at the place stays, one above it goes with its name, and a free slot stays
    ∷ case (slots []) (drop 0) 0 (slots [])
    ∷ case (slots (point 1 1 5 ∷ point 2 1 6 ∷ unused 3 1 ∷ point 4 1 7 ∷ [])) (drop 5) 0 (slots (point 1 1 5 ∷ zeros ∷ unused 3 1 ∷ zeros ∷ []))
    ∷ case (slots (point 1 1 0 ∷ point 2 1 1 ∷ [])) (drop 0) 0 (slots (point 1 1 0 ∷ []))
    ∷ case (slots (several 15 ++ (point 16 1 5 ∷ []))) (drop 3) 0 (slots (several 15))
    ∷ []

pub all_right : map (λ k. result_of k.lent k.call) cases ≡ map (λ k. k.result) cases
unfolding cases case same result_of slots sixteen bytes several point unused zeros called points_fit none_past named_once slot_of free_slot first_slot same_name name_fits name_of dropped all_below up_from table
all_right = refl
