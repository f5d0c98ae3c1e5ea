-- Worked take-backs with points and goings back (rules M5 and M6), each node with its own site: what is lent, the move, its number, and what it leaves.
-- Assumes nothing.
use mathlib.Core.Path.{◌≡◌, refl}
use mathlib.Core.List.{List, [], ◌∷◌, ◌++◌, map}
use Prim.Native.Nat.{ℕ}
use lib.ListN.{replicate}
use Rattle.lists.specs.Seq.{keep as keep_those, up_from, all_below, table}
use Rattle.plan.specs.Plan.{kind_number, is_kind, kind_of, size, kind_byte, kind, parent, above_byte, children_below, children, child_count, above, in_xor, depth_within, depth}
use Rattle.plan.specs.Check.{length_ok, kind_ok, parent_ok, under_block, fits, count_ok, depth_ok, at_all, check_number, fit_number}
use Rattle.event.specs.Event.{code_number, code_of, is_code, applies_by, applies, known}
use Rattle.event.specs.Site.{host_by, host_of, own, site_of}
use Rattle.event.specs.Bit.{weight, has_bit, without_bit}
use Rattle.event.specs.Valid.{event_fault}
use Rattle.row.specs.Row.{unhear}
use Rattle.job.specs.Simulation.{row_of, with_row, state_fits}
use Rattle.journal.specs.declared.Entry.{Entry}
use Rattle.journal.specs.Journal.{target, sited, entry_fault, undo_fits, undo_number, taken_back, undo_of}
use Rattle.journal.specs.Session.{lent}
use Rattle.points.specs.Points.{points, same_name, first_slot, slot_of, none_past, named_once, points_fit, dropped}
use Rattle.rewind.specs.Return.{Returned, returned_by, point_undo_fits, point_undo_of, back_of, back_fits, point_back_of}
use Rattle.rewind.specs.Session.{Held, held, returned_held, undo_held, back_held}

-- serial 0: task 1, and a state of it
abbrev in_turn : List ℕ
in_turn = 2 ∷ 255 ∷ 1 ∷ 0 ∷ []

abbrev four : ℕ → ℕ → ℕ → ℕ → List ℕ
four a b c d = a ∷ b ∷ c ∷ d ∷ []

abbrev entry : ℕ → ℕ → ℕ → ℕ → Entry
entry code node site changed = record { code = code; node = node; site = site; changed = changed }

-- start 0, site 1 told of it, told again, start 1; and entries that 8 and 9 refuse
abbrev day : List Entry
day = entry 1 0 255 1 ∷ entry 1 0 1 1 ∷ entry 1 0 1 0 ∷ entry 1 1 255 1 ∷ []

abbrev unknown : Entry
unknown = entry 9 0 255 1

abbrev foreign : Entry
foreign = entry 2 1 255 1

-- slots 0 and 1, by a byte of their names and a word; the others are free
slots : ℕ → ℕ → ℕ → ℕ → List ℕ → List Entry → ℕ → Held
slots a m b n st es k = held (lent st es k) (points (replicate 8 a ++ (replicate 8 b ++ replicate 112 0)) (m ∷ n ∷ replicate 14 0))

pub data Call : Type 0 where
  undo : Call
  back : List ℕ → Call

called : ℕ → Call
called a = back (replicate 8 a)

pub record Result : Type 0 where
  pub number : ℕ
  pub left : Held

result_by : List Entry → Returned → Result
result_by es r = record { number = r.number; left = returned_held es r }

pub result_of : List ℕ → Held → Call → Result
result_of p h undo = result_by h.journal.entries (undo_held p (own p) (λ q. q) h)
result_of p h (back name) = result_by h.journal.entries (back_held p (own p) (λ q. q) name h)

pub record Case : Type 0 where
  pub plan : List ℕ
  pub start : Held
  pub call : Call
  pub result : Result

case : List ℕ → Held → Call → ℕ → Held → Case
case p h c n r = record { plan = p; start = h; call = c; result = record { number = n; left = r } }

-- a refused call leaves all
refused : List ℕ → Held → Call → ℕ → Case
refused p h c n = case p h c n h

pub cases : List Case
cases =
    -- M5: a plan's own number; 7 for the state, the count, a point past it and two of one name; then 16; then 8 and 9 of the last entry
    refused (2 ∷ 255 ∷ []) (slots 1 9 1 9 [] [] 0) undo 5
    ∷ refused in_turn (slots 1 1 2 0 (0 ∷ 0 ∷ 0 ∷ []) day 0) undo 7
    ∷ refused in_turn (slots 1 1 2 0 (four 1 0 1 1) day 5) undo 7
    ∷ refused in_turn (slots 1 2 2 0 (four 0 0 0 0) day 0) undo 7
    ∷ refused in_turn (slots 1 1 1 1 (four 0 0 0 0) day 0) undo 7
    ∷ refused in_turn (slots 1 1 1 0 (four 0 0 0 0) day 0) undo 16
    ∷ refused in_turn (slots 1 1 2 2 (four 1 0 0 0) (unknown ∷ []) 1) undo 8
    ∷ refused in_turn (slots 1 1 2 2 (four 1 0 0 0) (foreign ∷ []) 1) undo 9
    -- a point at the new count stays, one above it goes; a repeat clears nothing
    ∷ case in_turn (slots 1 4 2 5 (four 1 0 1 1) day 4) undo 0 (slots 1 4 0 0 (four 1 0 1 0) day 3)
    ∷ case in_turn (slots 1 4 2 3 (four 1 0 1 0) day 3) undo 0 (slots 0 0 2 3 (four 1 0 1 0) day 2)
    -- M6: 1 to 6, then 7, also for a name that has not eight bytes; then 19, for the name of a free slot too; all before 8
    ∷ refused (2 ∷ 255 ∷ []) (slots 1 9 1 9 [] [] 0) (called 1) 5
    ∷ refused in_turn (slots 1 1 2 0 (four 1 0 1 1) day 4) (back (replicate 7 1)) 7
    ∷ refused in_turn (slots 1 1 2 0 (0 ∷ 0 ∷ 0 ∷ []) day 4) (called 1) 7
    ∷ refused in_turn (slots 1 1 2 0 (four 1 0 1 1) day 5) (called 1) 7
    ∷ refused in_turn (slots 1 1 2 6 (four 1 0 1 1) day 4) (called 1) 7
    ∷ refused in_turn (slots 1 1 1 2 (four 1 0 1 1) day 4) (called 1) 7
    ∷ refused in_turn (slots 1 1 2 2 (four 1 0 0 0) (unknown ∷ []) 1) (called 3) 19
    ∷ refused in_turn (slots 1 1 2 0 (four 1 0 0 0) (unknown ∷ []) 1) (called 2) 19
    -- the first number met from the last entry on, with all left; what is before the place is not looked at
    ∷ refused in_turn (slots 1 1 2 2 (four 1 0 1 0) (foreign ∷ unknown ∷ entry 1 0 1 1 ∷ []) 3) (called 1) 8
    ∷ refused in_turn (slots 1 1 2 2 (four 1 0 1 0) (unknown ∷ foreign ∷ entry 1 0 1 1 ∷ []) 3) (called 1) 9
    ∷ case in_turn (slots 1 2 2 0 (four 1 0 1 0) (unknown ∷ entry 1 0 1 1 ∷ []) 2) (called 1) 0 (slots 1 2 2 0 (four 1 0 0 0) (unknown ∷ entry 1 0 1 1 ∷ []) 1)
    -- the point itself stays, later ones go; from the end to the beginning, and to the current place
    ∷ case in_turn (slots 1 2 2 4 (four 1 0 1 1) day 4) (called 1) 0 (slots 1 2 0 0 (four 1 0 0 0) day 1)
    ∷ case in_turn (slots 1 2 2 4 (four 1 0 1 1) day 4) (called 2) 0 (slots 1 2 2 4 (four 1 0 1 0) day 3)
    ∷ case in_turn (slots 1 1 2 2 (four 1 0 1 1) day 4) (called 1) 0 (slots 1 1 0 0 (four 0 0 0 0) day 0)
    ∷ case in_turn (slots 1 2 2 1 (four 1 0 0 0) (unknown ∷ []) 1) (called 1) 0 (slots 1 2 2 1 (four 1 0 0 0) (unknown ∷ []) 1)
    ∷ case in_turn (slots 1 1 2 0 (four 0 0 0 0) [] 0) (called 1) 0 (slots 1 1 2 0 (four 0 0 0 0) [] 0)
    ∷ []

pub all_right : map (λ k. result_of k.plan k.start k.call) cases ≡ map (λ k. k.result) cases
unfolding cases case refused called slots result_of result_by point_undo_of point_undo_fits returned_by back_of back_fits point_back_of sited target entry_fault undo_fits undo_number taken_back undo_of own site_of host_of host_by state_fits row_of with_row event_fault known applies applies_by is_code code_of code_number unhear has_bit without_bit weight fit_number check_number length_ok kind_ok parent_ok under_block fits count_ok depth_ok at_all size kind_byte kind kind_of kind_number is_kind parent above_byte children_below children child_count depth depth_within above in_xor keep_those up_from all_below table points_fit none_past named_once slot_of first_slot same_name dropped
all_right = refl
