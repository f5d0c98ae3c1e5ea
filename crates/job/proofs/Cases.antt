-- Worked simulations on a serial with one task: each step's number, site and rule, and the record. Assumes nothing.
use mathlib.Core.Path.{◌≡◌, refl}
use mathlib.Core.List.{List, [], ◌∷◌, map}
use Prim.Native.Nat.{ℕ}
use Rattle.lists.specs.Seq.{all, any, keep, up_from, all_below, table, head_or, last_or}
use Rattle.plan.specs.Plan.{kind_number, is_kind, kind_of, size, kind_byte, kind, parent, above_byte, children_below, children, child_count, above, in_xor, depth_within, depth}
use Rattle.plan.specs.Check.{length_ok, kind_ok, parent_ok, under_block, fits, count_ok, depth_ok, at_all, check_number, fit_number}
use Rattle.event.specs.Event.{code_number, code_of, is_code, applies_by, applies, known}
use Rattle.event.specs.Site.{host_by, host_of, Layout, own, site_of}
use Rattle.event.specs.Bit.{weight, has_bit, with_bit}
use Rattle.event.specs.Valid.{event_fault, invalid}
use Rattle.guard.specs.Guard.{before_in, is_first, start_by, finish_by, abort_by, finishing, aborting, guard_by, guard, holds, bars_by, bars, barred}
use Rattle.guard.specs.Rule.{rule_kind, is_picked, rule_byte}
use Rattle.central.specs.Mark.{mark_number}
use Rattle.retention.specs.Record.{common_table, class_of, above_within, nodes_above, fell, counts_above, counts_as, class, Record, record_of}
use Rattle.row.specs.Row.{heard_in, heard, hear}
use Rattle.site.specs.declared.Report.{Report}
use Rattle.site.specs.Verdict.{report_of}
use Rattle.site.specs.Step.{step_invalid, decide, step_at}
use Rattle.job.specs.Simulation.{row_of, with_row, Step, step_by, step_from, state_fits, happen, tell, simulate, replay_from, numbers_from, zeros, replay, mark_by, mark_at, end_marks}

abbrev plan : List ℕ
plan = 2 ∷ 255 ∷ 1 ∷ 0 ∷ []

pub record Result : Type 0 where
  pub numbers : List ℕ
  pub sites : List ℕ
  pub rules : List ℕ
  pub record-after : Record

pub record Case : Type 0 where
  pub rows : Layout
  pub steps : List Step
  pub result : Result

case : Layout → List Step → List ℕ → List ℕ → List ℕ → List ℕ → List ℕ → Case
case lay ts ns qs rs ms cs = record { rows = lay; steps = ts; result = record { numbers = ns; sites = qs; rules = rs; record-after = record { marks = ms; classes = cs } } }

-- one number of every report
each_from : (Report → ℕ) → Layout → List ℕ → List Step → List ℕ
each_from f lay st [] = []
each_from f lay st (t ∷ ts) = f (report_of (simulate plan lay st t).verdict) ∷ each_from f lay (simulate plan lay st t).state ts

pub result_of : Layout → List Step → Result
result_of lay ts = record {
  numbers = numbers_from plan lay (zeros plan lay) ts;
  sites = each_from (λ r. r.site) lay (zeros plan lay) ts;
  rules = each_from (λ r. r.rule) lay (zeros plan lay) ts;
  record-after = record_of plan common_table (end_marks plan lay (replay plan lay ts));
}

-- both nodes at one site
shared : Layout
shared = record { rows = 1; home = λ v. 0 }

pub cases : List Case
cases =
    -- the task starts once it has heard of the serial's start, and the serial commits once it has heard of the task's commit
    case (own plan)
    (step_from 1 0 255 ∷ step_from 1 1 255 ∷ step_from 1 0 1 ∷ step_from 1 1 255 ∷ step_from 3 1 255 ∷ step_from 3 1 0 ∷ step_from 3 0 255 ∷ [])
    (0 ∷ 11 ∷ 0 ∷ 0 ∷ 0 ∷ 0 ∷ 0 ∷ []) (0 ∷ 1 ∷ 0 ∷ 1 ∷ 1 ∷ 0 ∷ 0 ∷ []) (0x01 ∷ 0 ∷ 0 ∷ 0x21 ∷ 0x13 ∷ 0 ∷ 0x23 ∷ []) (3 ∷ 3 ∷ []) (0 ∷ 1 ∷ [])
    -- the same at one site, where no message is needed and site 1 is none
    ∷ case shared
    (step_from 1 0 255 ∷ step_from 1 1 255 ∷ step_from 3 0 255 ∷ step_from 3 1 255 ∷ step_from 3 0 255 ∷ step_from 4 1 255 ∷ step_from 1 0 1 ∷ [])
    (0 ∷ 0 ∷ 11 ∷ 0 ∷ 0 ∷ 10 ∷ 8 ∷ []) (0 ∷ 0 ∷ 0 ∷ 0 ∷ 0 ∷ 0 ∷ 0 ∷ []) (0x01 ∷ 0x21 ∷ 0 ∷ 0x13 ∷ 0x23 ∷ 0 ∷ 0 ∷ []) (3 ∷ 3 ∷ []) (0 ∷ 1 ∷ [])
    -- every refusal, and 8 before 9 before 12
    ∷ case (own plan)
    (step_from 0 0 255 ∷ step_from 9 0 255 ∷ step_from 257 0 255 ∷ step_from 1 2 255 ∷ step_from 2 1 255 ∷ step_from 7 0 255 ∷ step_from 1 0 255 ∷ step_from 1 0 255
    ∷ step_from 3 0 255 ∷ step_from 9 1 1 ∷ step_from 1 2 1 ∷ step_from 2 1 2 ∷ step_from 2 1 0 ∷ step_from 1 1 0 ∷ step_from 1 0 1 ∷ step_from 1 0 1 ∷ [])
    (8 ∷ 8 ∷ 8 ∷ 8 ∷ 9 ∷ 9 ∷ 0 ∷ 10 ∷ 11 ∷ 8 ∷ 8 ∷ 8 ∷ 9 ∷ 12 ∷ 0 ∷ 0 ∷ [])
    (0 ∷ 0 ∷ 0 ∷ 0 ∷ 0 ∷ 0 ∷ 0 ∷ 0 ∷ 0 ∷ 0 ∷ 0 ∷ 0 ∷ 0 ∷ 0 ∷ 0 ∷ 0 ∷ [])
    (0 ∷ 0 ∷ 0 ∷ 0 ∷ 0 ∷ 0 ∷ 0x01 ∷ 0 ∷ 0 ∷ 0 ∷ 0 ∷ 0 ∷ 0 ∷ 0 ∷ 0 ∷ 0 ∷ []) (1 ∷ 0 ∷ []) (0 ∷ 0 ∷ [])
    ∷ []

pub all_right : map (λ k. result_of k.rows k.steps) cases ≡ map (λ k. k.result) cases
unfolding cases case result_of each_from shared own site_of host_of host_by step_by simulate happen tell state_fits row_of with_row replay_from numbers_from replay zeros mark_by mark_at end_marks record_of class class_of counts_as counts_above nodes_above above_within fell common_table event_fault invalid known applies applies_by is_code code_of code_number step_at step_invalid decide report_of rule_byte is_picked rule_kind heard heard_in hear has_bit with_bit weight mark_number fit_number check_number length_ok kind_ok parent_ok under_block fits count_ok depth_ok at_all size kind_byte kind kind_of kind_number is_kind parent above_byte children_below children child_count depth depth_within above in_xor guard guard_by start_by finish_by abort_by finishing aborting is_first head_or before_in holds barred bars bars_by all any keep up_from all_below table last_or
all_right = refl
