-- Worked calls of the journal (rules L2 and L3), each node with its own site: what is lent, the move, its number, and what it leaves. Assumes nothing.
use mathlib.Core.Path.{◌≡◌, refl}
use mathlib.Core.List.{List, [], ◌∷◌, map}
use Prim.Native.Nat.{ℕ}
use Rattle.lists.specs.Seq.{all, any, keep as keep_those, up_from, all_below, head_or, last_or}
use Rattle.plan.specs.Plan.{kind_number, is_kind, kind_of, size, kind_byte, kind, parent, above_byte, children_below, children, child_count, above, in_xor, depth_within, depth}
use Rattle.plan.specs.Check.{length_ok, kind_ok, parent_ok, under_block, fits, count_ok, depth_ok, at_all, check_number, fit_number}
use Rattle.event.specs.Event.{code_number, code_of, is_code, applies_by, applies, known}
use Rattle.event.specs.Site.{host_by, host_of, own, site_of}
use Rattle.event.specs.Bit.{weight, has_bit, with_bit, without_bit}
use Rattle.event.specs.Valid.{event_fault, invalid}
use Rattle.guard.specs.Guard.{before_in, is_first, start_by, finish_by, abort_by, finishing, aborting, guard_by, guard, holds, bars_by, bars, barred}
use Rattle.guard.specs.Rule.{rule_kind, is_picked, rule_byte}
use Rattle.row.specs.Row.{heard_in, heard, hear, unhear}
use Rattle.site.specs.Verdict.{report_of}
use Rattle.site.specs.Step.{step_invalid, decide, step_at}
use Rattle.job.specs.Simulation.{row_of, with_row, step_by, state_fits, happen, tell, simulate}
use Rattle.journal.specs.declared.Entry.{Entry}
use Rattle.journal.specs.Journal.{target, is_set, entry_of, step_on, keep_fits, kept_if, keep_of, sited, entry_fault, undo_fits, undo_number, taken_back, undo_of}
use Rattle.journal.specs.Session.{Move, keep, undo, Lent, lent, moved, kept_number}

-- serial 0: task 1, and a state of it
abbrev in_turn : List ℕ
in_turn = 2 ∷ 255 ∷ 1 ∷ 0 ∷ []

abbrev four : ℕ → ℕ → ℕ → ℕ → List ℕ
four a b c d = a ∷ b ∷ c ∷ d ∷ []

-- xor 0: tasks 1 and 2, and a state of it
abbrev one_of : List ℕ
one_of = 5 ∷ 255 ∷ 1 ∷ 0 ∷ 1 ∷ 0 ∷ []

abbrev nine : ℕ → ℕ → ℕ → List ℕ
nine a b c = a ∷ b ∷ 0 ∷ 0 ∷ c ∷ 0 ∷ 0 ∷ 0 ∷ 0 ∷ []

abbrev entry : ℕ → ℕ → ℕ → ℕ → Entry
entry code node site changed = record { code = code; node = node; site = site; changed = changed }

-- the bytes of an entry that is not in use
abbrev unused : Entry
unused = entry 9 9 9 9

pub record Result : Type 0 where
  pub number : ℕ
  pub left : Lent

pub record Case : Type 0 where
  pub plan : List ℕ
  pub start : Lent
  pub move : Move
  pub result : Result

case : List ℕ → Lent → Move → ℕ → Lent → Case
case p l m n r = record { plan = p; start = l; move = m; result = record { number = n; left = r } }

-- a refused move leaves all
refused : List ℕ → Lent → Move → ℕ → Case
refused p l m n = case p l m n l

number_of : List ℕ → Lent → Move → ℕ
number_of p l (keep code node site) = kept_number p (own p) (λ q. q) l.state l.entries l.count code node site
number_of p l undo = (undo_of p (own p) (λ q. q) l.state l.entries l.count).number

pub result_of : List ℕ → Lent → Move → Result
result_of p l m = record { number = number_of p l m; left = moved p (own p) (λ q. q) l m }

pub cases : List Case
cases =
    -- a plan's own number comes first, then 7: the state's length, a count above the number of entries, a full journal; and then 8
    refused (2 ∷ 255 ∷ []) (lent [] [] 0) (keep 0 0 255) 5
    ∷ refused in_turn (lent (0 ∷ 0 ∷ 0 ∷ []) (unused ∷ []) 0) (keep 0 0 255) 7
    ∷ refused in_turn (lent (four 0 0 0 0) (unused ∷ []) 2) (keep 1 0 255) 7
    ∷ refused in_turn (lent (four 0 0 0 0) (unused ∷ []) 1) (keep 0 0 255) 7
    ∷ refused in_turn (lent (four 0 0 0 0) (unused ∷ []) 0) (keep 9 0 255) 8
    ∷ refused in_turn (lent (four 0 0 0 0) (unused ∷ []) 0) (keep 1 0 2) 8
    -- as the simulation refuses
    ∷ refused in_turn (lent (four 0 0 0 0) (unused ∷ []) 0) (keep 2 1 255) 9
    ∷ refused in_turn (lent (four 1 0 0 0) (unused ∷ []) 0) (keep 1 0 255) 10
    ∷ refused in_turn (lent (four 0 0 0 0) (unused ∷ []) 0) (keep 1 1 255) 11
    ∷ refused in_turn (lent (four 0 0 0 0) (unused ∷ []) 0) (keep 1 0 1) 12
    -- kept: an event, a message, a repeat, and a pick, whose bit is the one in the parent's row
    ∷ case in_turn (lent (four 0 0 0 0) (unused ∷ unused ∷ []) 0) (keep 1 0 255) 0 (lent (four 1 0 0 0) (entry 1 0 255 1 ∷ unused ∷ []) 1)
    ∷ case in_turn (lent (four 1 0 0 0) (entry 1 0 255 1 ∷ unused ∷ []) 1) (keep 1 0 1) 0 (lent (four 1 0 1 0) (entry 1 0 255 1 ∷ entry 1 0 1 1 ∷ []) 2)
    ∷ case in_turn (lent (four 1 0 1 0) (unused ∷ unused ∷ []) 1) (keep 1 0 1) 0 (lent (four 1 0 1 0) (unused ∷ entry 1 0 1 0 ∷ []) 2)
    ∷ case one_of (lent (nine 1 2 64) (unused ∷ []) 0) (keep 7 1 255) 0 (lent (nine 1 66 64) (entry 7 1 255 1 ∷ []) 1)
    -- taking back: a plan's own number, then 7 twice, then 16, then 8 and 9 of the last entry
    ∷ refused (2 ∷ 255 ∷ []) (lent [] [] 0) undo 5
    ∷ refused in_turn (lent (0 ∷ 0 ∷ 0 ∷ []) (unused ∷ []) 0) undo 7
    ∷ refused in_turn (lent (four 0 0 0 0) (unused ∷ []) 2) undo 7
    ∷ refused in_turn (lent (four 0 0 0 0) (unused ∷ []) 0) undo 16
    ∷ refused in_turn (lent (four 1 0 0 0) (entry 9 0 255 1 ∷ []) 1) undo 8
    ∷ refused in_turn (lent (four 1 0 0 0) (entry 1 0 2 1 ∷ []) 1) undo 8
    ∷ refused in_turn (lent (four 1 0 0 0) (entry 2 1 255 1 ∷ []) 1) undo 9
    -- cleared in the event's own row, which is the parent's for a pick, and in the row of the site that was told
    ∷ case in_turn (lent (four 1 0 1 0) (entry 1 0 255 1 ∷ []) 1) undo 0 (lent (four 0 0 1 0) (entry 1 0 255 1 ∷ []) 0)
    ∷ case one_of (lent (nine 1 66 64) (entry 7 1 255 1 ∷ []) 1) undo 0 (lent (nine 1 2 64) (entry 7 1 255 1 ∷ []) 0)
    ∷ case in_turn (lent (four 1 0 1 0) (unused ∷ entry 1 0 1 1 ∷ []) 2) undo 0 (lent (four 1 0 0 0) (unused ∷ entry 1 0 1 1 ∷ []) 1)
    -- changed: 0 clears nothing, any other byte does; a bit that is not set stays
    ∷ case in_turn (lent (four 1 0 1 0) (unused ∷ entry 1 0 1 0 ∷ []) 2) undo 0 (lent (four 1 0 1 0) (unused ∷ entry 1 0 1 0 ∷ []) 1)
    ∷ case in_turn (lent (four 1 0 1 0) (unused ∷ entry 1 0 1 2 ∷ []) 2) undo 0 (lent (four 1 0 0 0) (unused ∷ entry 1 0 1 2 ∷ []) 1)
    ∷ case in_turn (lent (four 4 0 0 0) (entry 1 0 255 1 ∷ []) 1) undo 0 (lent (four 4 0 0 0) (entry 1 0 255 1 ∷ []) 0)
    ∷ []

pub all_right : map (λ k. result_of k.plan k.start k.move) cases ≡ map (λ k. k.result) cases
unfolding cases case refused result_of number_of moved keep_of kept_if keep_fits step_on entry_of is_set target sited entry_fault undo_fits undo_number taken_back undo_of own site_of host_of host_by step_by simulate happen tell state_fits row_of with_row event_fault invalid known applies applies_by is_code code_of code_number step_at step_invalid decide report_of rule_byte is_picked rule_kind heard heard_in hear unhear has_bit with_bit without_bit weight fit_number check_number length_ok kind_ok parent_ok under_block fits count_ok depth_ok at_all size kind_byte kind kind_of kind_number is_kind parent above_byte children_below children child_count depth depth_within above in_xor guard guard_by start_by finish_by abort_by finishing aborting is_first head_or before_in holds barred bars bars_by all any keep_those up_from all_below last_or
all_right = refl
