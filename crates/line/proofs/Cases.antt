-- Worked cases of restarts: what goes wrong where a site forgets an event that happened at it, and that what it had only heard may go. Assumes nothing.
use mathlib.Core.Path.{◌≡◌, refl}
use mathlib.Core.Bool.{false}
use mathlib.Core.List.{List, [], ◌∷◌}
use Prim.Native.Nat.{ℕ}
use Rattle.lists.specs.Seq.{all, any, keep, up_from, all_below, table, head_or, last_or}
use Rattle.plan.specs.Plan.{kind_number, is_kind, kind_of, size, kind_byte, kind, parent, above_byte, children_below, children, child_count, above, in_xor, depth_within, depth}
use Rattle.plan.specs.Check.{length_ok, kind_ok, parent_ok, under_block, fits, count_ok, depth_ok, at_all, check_number, fit_number}
use Rattle.event.specs.Event.{start, commit, abort, at, code_number, code_of, is_code, applies_by, applies, known}
use Rattle.event.specs.Site.{host_by, host_of, own, site_of}
use Rattle.event.specs.Bit.{weight, has_bit, with_bit}
use Rattle.event.specs.Valid.{event_fault, invalid}
use Rattle.guard.specs.Guard.{before_in, is_first, start_by, finish_by, abort_by, finishing, aborting, guard_by, guard, holds, bars_by, bars, barred}
use Rattle.guard.specs.Rule.{rule_kind, is_picked, rule_byte}
use Rattle.central.specs.Mark.{mark_number, is_mark}
use Rattle.central.specs.Central.{fresh, mark_after, answer_after, picked_after, after, is_yes, is_no, reached_by, may_start, of_branch, finishes_by, fails_by, allowed_by, allowed, run_from, is_run}
use Rattle.row.specs.Row.{heard_in, heard, hear}
use Rattle.site.specs.Verdict.{report_of}
use Rattle.site.specs.Step.{step_invalid, decide, step_at}
use Rattle.job.specs.Simulation.{row_of, with_row, step_from, step_by, state_fits, happen, tell, simulate, replay_from, numbers_from, passed_of, passed_from, zeros, replay, passed, mark_by, mark_at, end_marks}
use Rattle.merge.specs.Merge.{merged}
use Rattle.merge.specs.Events.{all_codes, events_at, every}

-- ONE TASK. It starts and commits; its row is 05.
abbrev task : List ℕ
task = 1 ∷ 255 ∷ []

abbrev done : List ℕ
done = replay task (own task) (step_from 1 0 255 ∷ step_from 3 0 255 ∷ [])

pub record Lost : Type 0 where
  pub row : done ≡ 5 ∷ []
  -- a restart from 01, which has not the commit: the task can fail after it has committed
  pub again : numbers_from task (own task) (with_row task done 0 (1 ∷ [])) (step_from 4 0 255 ∷ []) ≡ 0 ∷ []
  -- which no run has
  pub no_run : is_run task (at start 0 ∷ at commit 0 ∷ at abort 0 ∷ []) ≡ false

pub lost : Lost
unfolding all any keep up_from all_below table head_or last_or kind_number is_kind kind_of size kind_byte kind parent above_byte children_below children child_count above in_xor depth_within depth length_ok kind_ok parent_ok under_block fits count_ok depth_ok at_all check_number fit_number code_number code_of is_code applies_by applies known host_by host_of own site_of weight has_bit with_bit invalid before_in is_first start_by finish_by abort_by finishing aborting guard_by guard holds bars_by bars barred rule_kind is_picked rule_byte mark_number is_mark fresh mark_after answer_after picked_after after is_yes is_no reached_by may_start of_branch finishes_by fails_by allowed_by allowed run_from is_run heard_in heard hear step_invalid decide row_of with_row state_fits happen tell simulate replay_from numbers_from passed_of passed_from zeros replay passed events_at every merged report_of step_at step_by event_fault all_codes
lost = record { row = refl; again = refl; no_run = refl }

-- A SERIAL OF ONE TASK, two sites. The task commits, and the serial hears of it; the task forgets its commit and fails; the serial commits. Every step
-- passes, and the marks are 3 and 4: a serial that is committed over a task that has failed, which no run and no pass has.
abbrev chain : List ℕ
chain = 2 ∷ 255 ∷ 1 ∷ 0 ∷ []

abbrev told : List ℕ
told = replay chain (own chain) (step_from 1 0 255 ∷ step_from 1 0 1 ∷ step_from 1 1 255 ∷ step_from 3 1 255 ∷ step_from 3 1 0 ∷ [])

abbrev forgot : List ℕ
forgot = with_row chain told 1 (1 ∷ 1 ∷ [])

pub record Apart : Type 0 where
  pub passes : numbers_from chain (own chain) forgot (step_from 4 1 255 ∷ step_from 3 0 255 ∷ []) ≡ 0 ∷ 0 ∷ []
  pub marks : end_marks chain (own chain) (replay_from chain (own chain) forgot (step_from 4 1 255 ∷ step_from 3 0 255 ∷ [])) ≡ 3 ∷ 4 ∷ []

pub torn : Apart
unfolding all any keep up_from all_below table head_or last_or kind_number is_kind kind_of size kind_byte kind parent above_byte children_below children child_count above in_xor depth_within depth length_ok kind_ok parent_ok under_block fits count_ok depth_ok at_all check_number fit_number code_number code_of is_code applies_by applies known host_by host_of own site_of weight has_bit with_bit invalid before_in is_first start_by finish_by abort_by finishing aborting guard_by guard holds bars_by bars barred rule_kind is_picked rule_byte mark_number heard_in heard hear step_invalid decide row_of with_row state_fits happen tell simulate replay_from numbers_from zeros replay mark_by mark_at end_marks events_at every report_of step_at step_by event_fault all_codes
torn = record { passes = refl; marks = refl }

-- WHAT WAS ONLY HEARD may go: site 1 forgets that the serial has started, and is refused (11); a whole row of site 0 comes, and it starts.
abbrev begun : List ℕ
begun = replay chain (own chain) (step_from 1 0 255 ∷ step_from 1 0 1 ∷ [])

abbrev empty : List ℕ
empty = with_row chain begun 1 (0 ∷ 0 ∷ [])

pub record Harmless : Type 0 where
  pub waits : numbers_from chain (own chain) empty (step_from 1 1 255 ∷ []) ≡ 11 ∷ []
  pub goes_on : numbers_from chain (own chain) (with_row chain empty 1 (merged (row_of chain empty 1) (row_of chain empty 0))) (step_from 1 1 255 ∷ []) ≡ 0 ∷ []

pub harmless : Harmless
unfolding all any keep up_from all_below table head_or last_or kind_number is_kind kind_of size kind_byte kind parent above_byte children_below children child_count above in_xor depth_within depth length_ok kind_ok parent_ok under_block fits count_ok depth_ok at_all check_number fit_number code_number code_of is_code applies_by applies known host_by host_of own site_of weight has_bit with_bit invalid before_in is_first start_by finish_by abort_by finishing aborting guard_by guard holds bars_by bars barred rule_kind is_picked rule_byte heard_in heard hear step_invalid decide row_of with_row state_fits happen tell simulate passed_of zeros events_at every merged report_of step_at step_by event_fault all_codes replay replay_from numbers_from
harmless = record { waits = refl; goes_on = refl }
