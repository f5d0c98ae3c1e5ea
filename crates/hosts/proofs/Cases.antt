-- WHAT A LIE DOES, on small plans whose nodes have a site each: one list of actions that keeps a host's two rules, and one that breaks each. For each
-- list the actions' numbers, whether it keeps the rules, whether what happened is a run of the central rule, and the marks by the sites' own rows.
-- Assumes nothing.
use mathlib.Core.Path.{◌≡◌, refl}
use mathlib.Core.Bool.{Bool, true, false}
use mathlib.Core.List.{List, [], ◌∷◌, map}
use Prim.Native.Nat.{ℕ}
use Rattle.lists.specs.Seq.{all, any, keep, up_from, all_below, table, head_or, last_or, earlier}
use Rattle.plan.specs.Plan.{kind_number, is_kind, kind_of, size, kind_byte, kind, parent, above_byte, children_below, children, child_count, others, above, in_xor, depth_within, depth}
use Rattle.plan.specs.Check.{length_ok, kind_ok, parent_ok, under_block, fits, count_ok, depth_ok, at_all, check_number, fit_number}
use Rattle.event.specs.Event.{code_number, code_of, is_code, same_code, same, among, applies_by, applies, known}
use Rattle.event.specs.Site.{host_by, host_of, own, site_of}
use Rattle.event.specs.Bit.{weight, has_bit, with_bit}
use Rattle.event.specs.Valid.{event_fault, invalid}
use Rattle.guard.specs.Guard.{before_in, is_first, start_by, finish_by, abort_by, finishing, aborting, guard_by, guard, holds, bars_by, bars, barred}
use Rattle.central.specs.Mark.{mark_number, is_mark}
use Rattle.central.specs.Central.{fresh, mark_after, answer_after, picked_after, after, reached_by, may_start, finishes_by, fails_by, allowed_by, allowed, run_from, is_run}
use Rattle.row.specs.Row.{heard_in, heard, hear}
use Rattle.site.specs.Verdict.{report_of}
use Rattle.site.specs.Step.{step_invalid, decide, step_at, hear_of}
use Rattle.job.specs.Simulation.{passed_of, mark_by}
use Rattle.hosts.specs.Hosts.{fresh_rows, Action, try, send, try_number, send_number, action_number, acted, step_for, rows_from, action_numbers_from, happened_from, rows_after, action_numbers, happened, is_event, keeps, keeps_from, keeps_rules, host_mark, host_marks}

-- serial 0: tasks 1 and 2
abbrev in_turn : List ℕ
in_turn = 2 ∷ 255 ∷ 1 ∷ 0 ∷ 1 ∷ 0 ∷ []

-- xor 0: tasks 1 and 2
abbrev one_of : List ℕ
one_of = 5 ∷ 255 ∷ 1 ∷ 0 ∷ 1 ∷ 0 ∷ []

pub record Result : Type 0 where
  pub numbers : List ℕ
  pub kept : Bool
  pub run : Bool
  pub marks : List ℕ

pub record Case : Type 0 where
  pub plan : List ℕ
  pub actions : List Action
  pub result : Result

case : List ℕ → List Action → List ℕ → Bool → Bool → List ℕ → Case
case p xs ns k r ms = record { plan = p; actions = xs; result = record { numbers = ns; kept = k; run = r; marks = ms } }

pub result_of : List ℕ → List Action → Result
result_of p xs = record {
  numbers = action_numbers p xs;
  kept = keeps_rules p (own p) xs;
  run = is_run p (happened p xs);
  marks = host_marks p (own p) (rows_after p xs);
}

pub cases : List Case
cases =
    -- every site is told what it waits for, once it has happened
    case in_turn
    (try 1 0 0 ∷ send 1 0 1 ∷ try 1 1 1 ∷ try 3 1 1 ∷ send 3 1 2 ∷ try 1 2 2 ∷ try 3 2 2 ∷ send 3 2 0 ∷ try 3 0 0 ∷ [])
    (0 ∷ 0 ∷ 0 ∷ 0 ∷ 0 ∷ 0 ∷ 0 ∷ 0 ∷ 0 ∷ []) true true (3 ∷ 3 ∷ 3 ∷ [])
    -- site 2 is told of a commit of task 1 that did not happen: the serial commits, and task 1 has not run
    ∷ case in_turn
    (try 1 0 0 ∷ send 3 1 2 ∷ try 1 2 2 ∷ try 3 2 2 ∷ send 3 2 0 ∷ try 3 0 0 ∷ [])
    (0 ∷ 0 ∷ 0 ∷ 0 ∷ 0 ∷ 0 ∷ []) false false (3 ∷ 0 ∷ 3 ∷ [])
    -- picks are tried on the children's rows, not on the xor's: both pass, and both children commit
    ∷ case one_of
    (try 1 0 0 ∷ send 1 0 1 ∷ send 1 0 2 ∷ try 1 1 1 ∷ try 2 1 1 ∷ try 1 2 2 ∷ try 2 2 2 ∷ try 7 1 1 ∷ try 7 2 2 ∷ try 3 1 1 ∷ try 3 2 2 ∷ [])
    (0 ∷ 0 ∷ 0 ∷ 0 ∷ 0 ∷ 0 ∷ 0 ∷ 0 ∷ 0 ∷ 0 ∷ 0 ∷ []) false false (1 ∷ 3 ∷ 3 ∷ [])
    ∷ []

pub all_right : map (λ k. result_of k.plan k.actions) cases ≡ map (λ k. k.result) cases
unfolding cases case result_of action_numbers action_numbers_from action_number try_number send_number acted step_for rows_after rows_from fresh_rows happened happened_from keeps_rules keeps_from keeps is_event host_marks host_mark mark_by passed_of own site_of host_of host_by step_at hear_of step_invalid decide report_of heard heard_in hear has_bit with_bit weight event_fault invalid known applies applies_by is_code code_of code_number same_code same among mark_number is_mark is_run run_from allowed allowed_by may_start reached_by finishes_by fails_by fresh after mark_after answer_after picked_after fit_number check_number length_ok kind_ok parent_ok under_block fits count_ok depth_ok at_all size kind_byte kind kind_of kind_number is_kind parent above_byte children_below children child_count others depth depth_within above in_xor guard guard_by start_by finish_by abort_by finishing aborting is_first head_or before_in holds barred bars bars_by all any keep up_from all_below table last_or earlier
all_right = refl
