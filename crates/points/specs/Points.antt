-- Named points in a journal (rules M1 to M4): sixteen slots, each with a name of 8 bytes and a place. Definitions only.
use Rattle.std.specs.Prelude.{Bool, cond, ◌&&◌, ◌||◌, not, List, ℕ, zero, suc, ◌*◌, ◌-◌, ◌/◌, eqb, ltb, length, take, drop, get_or, set, Option, Some, None}
use Rattle.std.proofs.lemmas.List.Edits.{sets}
use Rattle.lists.specs.Seq.{all_below, table}

-- M1: all that is lent: the names, 8 bytes a slot, and the places, a word a slot, which is 0 in a free slot and n + 1 for a point at place n
pub record Points : Type 0 where
  pub names : List ℕ
  pub places : List ℕ

abbrev pub points : List ℕ → List ℕ → Points
points ns ps = record { names = ns; places = ps }

-- M1: slot i's name; whether it is in use; and the place of its point
abbrev pub name_at : List ℕ → ℕ → List ℕ
name_at names i = take 8 (drop (8 * i) names)

abbrev pub in_use : List ℕ → ℕ → Bool
in_use places i = not (eqb (get_or places i 0) 0)

abbrev pub place_at : List ℕ → ℕ → ℕ
place_at places i = get_or places i 0 - 1

-- M1: two names are the same, byte for byte
unfoldable pub same_name : List ℕ → List ℕ → Bool
same_name a b = all_below (λ j. eqb (get_or a j 0) (get_or b j 0)) 8

-- M3, M6: a slot that was looked for; 16 where there is none
abbrev pub slot_number : Option ℕ → ℕ
slot_number (Some i) = i
slot_number None = 16

-- M3: the first of n slots from `from` on for which a test holds; the one behind them where there is none
unfoldable pub first_slot : (ℕ → Bool) → ℕ → ℕ → ℕ
first_slot f zero from = from
first_slot f (suc n) from = cond (f from) from (first_slot f n (suc from))

-- M3, M6: the first slot in use that has this name; M3: the first free slot; 16 where there is none
abbrev pub has_name : List ℕ → List ℕ → List ℕ → ℕ → Bool
has_name names places name i = in_use places i && same_name (name_at names i) name

unfoldable pub slot_of : List ℕ → List ℕ → List ℕ → ℕ
slot_of names places name = first_slot (has_name names places name) 16 0

unfoldable pub free_slot : List ℕ → ℕ
free_slot places = first_slot (λ i. not (in_use places i)) 16 0

-- M4: slot i's point is at a place above k
abbrev pub is_past : List ℕ → ℕ → ℕ → Bool
is_past places k i = ltb (suc k) (get_or places i 0)

-- M2: no point is past the count; and each name stands once: the first slot of a point's name is its own
abbrev pub is_within : List ℕ → ℕ → ℕ → Bool
is_within places k i = not (is_past places k i)

abbrev pub is_once : List ℕ → List ℕ → ℕ → Bool
is_once names places i = not (in_use places i) || eqb (slot_of names places (name_at names i)) i

unfoldable pub none_past : List ℕ → ℕ → Bool
none_past places k = all_below (is_within places k) 16

unfoldable pub named_once : List ℕ → List ℕ → Bool
named_once names places = all_below (is_once names places) 16

-- M2: what 7 asks of points: the lengths, no point past the count, no two of one name
unfoldable pub points_fit : List ℕ → List ℕ → ℕ → Bool
points_fit names places k = eqb (length names) 128 && eqb (length places) 16 && none_past places k && named_once names places

-- M3: what naming leaves
pub record Naming : Type 0 where
  pub number : ℕ
  pub left : Points

abbrev pub naming : ℕ → List ℕ → List ℕ → Naming
naming n ns ps = record { number = n; left = points ns ps }

-- M3: 7 also for a name that has not 8 bytes, and for a count for which no word of 64 bits can stand
unfoldable pub name_fits : List ℕ → ℕ → List ℕ → List ℕ → Bool
name_fits name k names places = eqb (length name) 8 && ltb k 18446744073709551615 && points_fit names places k

-- M3: a known name moves in its slot, a new one takes the first free slot, and without one it is 20
unfoldable pub name_of : List ℕ → ℕ → List ℕ → List ℕ → Naming
name_of name k names places =
    cond (not (name_fits name k names places)) (naming 7 names places)
    (cond (ltb (slot_of names places name) 16) (naming 0 names (set places (slot_of names places name) (suc k)))
    (cond (ltb (free_slot places) 16) (naming 0 (sets names (8 * free_slot places) name) (set places (free_slot places) (suc k)))
    (naming 20 names places)))

-- M4: the points past k dropped: a slot's name is bytes 8 i to 8 i + 7
unfoldable pub dropped : ℕ → List ℕ → List ℕ → Points
dropped k names places =
    points (table (λ j. cond (is_past places k (j / 8)) 0 (get_or names j 0)) 128) (table (λ i. cond (is_past places k i) 0 (get_or places i 0)) 16)
