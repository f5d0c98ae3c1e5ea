-- Worked mergings in plan P, 02ff 0100 0500 0102 0102 0100: what is new, a repeat, an older row, damaged rows, lengths. Assumes nothing.
use Rattle.std.proofs.Common.{◌≡◌, refl, List, [], ◌∷◌, map, ℕ}
use Rattle.lists.specs.Seq.{all, keep, up_from, all_below, table}
use Rattle.plan.specs.Plan.{kind_number, is_kind, kind_of, size, kind_byte, kind, parent, above_byte, children_below, children, child_count, above, in_xor, depth_within, depth}
use Rattle.plan.specs.Check.{length_ok, kind_ok, parent_ok, under_block, fits, count_ok, depth_ok, at_all, check_number, fit_number}
use Rattle.event.specs.Event.{code_number, is_code, applies_by, applies}
use Rattle.event.specs.Bit.{weight, has_bit}
use Rattle.row.specs.Row.{heard_in, heard}
use Rattle.merge.specs.Output.{Output, output}
use Rattle.merge.specs.Events.{all_codes, events_at, every}
use Rattle.merge.specs.Merge.{merged, new_events, row_applies, rows_fit, merge_number, merge_of}

abbrev plan_p : List ℕ
plan_p = 2 ∷ 255 ∷ 1 ∷ 0 ∷ 5 ∷ 0 ∷ 1 ∷ 2 ∷ 1 ∷ 2 ∷ 1 ∷ 0 ∷ []

abbrev zeros : List ℕ
zeros = 0 ∷ 0 ∷ 0 ∷ 0 ∷ 0 ∷ 0 ∷ []

-- a row, the other one, and what the call comes to
pub record Case : Type 0 where
  pub row : List ℕ
  pub other : List ℕ
  pub comes : Output

case : List ℕ → List ℕ → Output → Case
case row other a = record { row = row; other = other; comes = a }

pub cases : List Case
cases =
    -- start and commit of task 1 are new; then they are not; an older row has nothing new
    case (1 ∷ 0 ∷ 0 ∷ 0 ∷ 0 ∷ 0 ∷ []) (1 ∷ 5 ∷ 0 ∷ 0 ∷ 0 ∷ 0 ∷ []) (output 0 2 (1 ∷ 5 ∷ 0 ∷ 0 ∷ 0 ∷ 0 ∷ []))
    ∷ case (1 ∷ 5 ∷ 0 ∷ 0 ∷ 0 ∷ 0 ∷ []) (1 ∷ 5 ∷ 0 ∷ 0 ∷ 0 ∷ 0 ∷ []) (output 0 0 (1 ∷ 5 ∷ 0 ∷ 0 ∷ 0 ∷ 0 ∷ []))
    ∷ case (1 ∷ 5 ∷ 0 ∷ 0 ∷ 0 ∷ 0 ∷ []) (1 ∷ 0 ∷ 0 ∷ 0 ∷ 0 ∷ 0 ∷ []) (output 0 0 (1 ∷ 5 ∷ 0 ∷ 0 ∷ 0 ∷ 0 ∷ []))
    -- a child of an xor has six events; here three of them are new
    ∷ case (0 ∷ 0 ∷ 0 ∷ 0x43 ∷ 0 ∷ 0 ∷ []) (0 ∷ 0 ∷ 0 ∷ 0x8d ∷ 0 ∷ 0 ∷ []) (output 0 3 (0 ∷ 0 ∷ 0 ∷ 0xcf ∷ 0 ∷ 0 ∷ []))
    -- 9: yes of a task, an offer of the root, a pick below a serial; in the row too
    ∷ case zeros (0 ∷ 0 ∷ 0 ∷ 0x10 ∷ 0 ∷ 0 ∷ []) (output 9 0 zeros)
    ∷ case zeros (2 ∷ 0 ∷ 0 ∷ 0 ∷ 0 ∷ 0 ∷ []) (output 9 0 zeros)
    ∷ case zeros (0 ∷ 0 ∷ 0x40 ∷ 0 ∷ 0 ∷ 0 ∷ []) (output 9 0 zeros)
    ∷ case (0 ∷ 0x20 ∷ 0 ∷ 0 ∷ 0 ∷ 0 ∷ []) zeros (output 9 0 (0 ∷ 0x20 ∷ 0 ∷ 0 ∷ 0 ∷ 0 ∷ []))
    -- 7: one byte too few or too many, in either; before 9
    ∷ case (0 ∷ 0 ∷ 0 ∷ 0 ∷ 0 ∷ []) zeros (output 7 0 (0 ∷ 0 ∷ 0 ∷ 0 ∷ 0 ∷ []))
    ∷ case zeros (2 ∷ 0 ∷ 0 ∷ 0 ∷ 0 ∷ 0 ∷ 0 ∷ []) (output 7 0 zeros)
    ∷ []

pub all_right : map (λ k. merge_of plan_p k.row k.other) cases ≡ map (λ k. k.comes) cases
unfolding cases case all keep up_from all_below table kind_number is_kind kind_of size kind_byte kind parent above_byte children_below children child_count above in_xor depth_within depth length_ok kind_ok parent_ok under_block fits count_ok depth_ok at_all check_number fit_number all_codes code_number is_code applies_by applies events_at every weight has_bit heard_in heard merged new_events row_applies rows_fit merge_number merge_of
all_right = refl
