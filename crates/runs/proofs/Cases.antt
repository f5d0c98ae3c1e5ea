-- The worked cases P1 to P10, on plan P: a guard's bytes (P1 to P8), and the pass whole, its number and its marks (P9, P10); and a draft that
-- committed inside a block that was turned down, the pass and its record. Then runs of the two kinds of and. Assumes nothing.
use mathlib.Core.Path.{◌≡◌, refl}
use mathlib.Core.Bool.{true, false}
use mathlib.Core.List.{List, [], ◌∷◌, map}
use Prim.Native.Nat.{ℕ}
use Rattle.lists.specs.Seq.{all, any, keep, up_from, table, head_or, last_or}
use Rattle.plan.specs.Plan.{kind_number, is_kind, kind_of, size, kind_byte, kind, parent, children_below, children, others, above, in_xor}
use Rattle.event.specs.Event.{start, offer, commit, abort, down, code_number, Event, at, applies_by, applies}
use Rattle.guard.specs.Guard.{before_in, is_first, start_by, finish_by, abort_by, finishing, aborting, guard_by, guard}
use Rattle.guard.specs.Bytes.{enc_events, enc_clauses, encode}
use Rattle.central.specs.Mark.{mark_number, is_mark}
use Rattle.central.specs.Central.{fresh, mark_after, answer_after, picked_after, after, reached_by, may_start, finishes_by, fails_by, allowed_by, allowed, run_from, is_run}
use Rattle.pass.specs.Pass.{PassResult, pass_result, goes_by, goes, good_mark, skip, note, child_mark, child_settled, meet_by, meet, walk, nothing, unwalked, one_or_two, bad_answer, bad_pick, closes, ending, end_of, close, settle_if, settle_by, settle, number_of, root_mark, pass_of, pass}
use Rattle.retention.specs.Record.{common_table, class_of, above_within, nodes_above, fell, counts_above, counts_as, class, Record, record_of}

pub data Question : Type 0 where
  guard-bytes : Event → Question
  pass-whole : List ℕ → Question
  pass-record : List ℕ → Question

pub data Answer : Type 0 where
  bytes : List ℕ → Answer
  whole : PassResult → Answer
  recorded : PassResult → Record → Answer

-- serial 0: task 1, xor 2 of tasks 3 and 4, task 5
abbrev plan_p : List ℕ
plan_p = 2 ∷ 255 ∷ 1 ∷ 0 ∷ 5 ∷ 0 ∷ 1 ∷ 2 ∷ 1 ∷ 2 ∷ 1 ∷ 0 ∷ []

-- xor 0: serial 1 of task 2, task 3
abbrev plan_d : List ℕ
plan_d = 5 ∷ 255 ∷ 2 ∷ 0 ∷ 1 ∷ 1 ∷ 1 ∷ 0 ∷ []

pub answer : Question → Answer
answer (guard-bytes e) = bytes (encode (guard plan_p e))
answer (pass-whole a) = whole (pass plan_p a)
answer (pass-record a) = recorded (pass plan_d a) (record_of plan_d common_table (pass plan_d a).marks)

pub record Case : Type 0 where
  pub asked : Question
  pub told : Answer

case : Question → Answer → Case
case q a = record { asked = q; told = a }

pub cases : List Case
cases =
    case (guard-bytes (at start 0)) (bytes (0 ∷ []))
    ∷ case (guard-bytes (at start 2)) (bytes (1 ∷ 1 ∷ 3 ∷ 1 ∷ []))
    ∷ case (guard-bytes (at commit 2)) (bytes (3 ∷ 3 ∷ 3 ∷ 3 ∷ 4 ∷ 3 ∷ 8 ∷ 3 ∷ 3 ∷ 3 ∷ 4 ∷ 4 ∷ 4 ∷ 8 ∷ 4 ∷ 2 ∷ 3 ∷ 3 ∷ 3 ∷ 4 ∷ []))
    ∷ case (guard-bytes (at abort 2)) (bytes (2 ∷ 1 ∷ 4 ∷ 3 ∷ 1 ∷ 4 ∷ 4 ∷ []))
    ∷ case (guard-bytes (at down 3)) (bytes (2 ∷ 1 ∷ 2 ∷ 3 ∷ 1 ∷ 7 ∷ 4 ∷ []))
    ∷ case (guard-bytes (at commit 3)) (bytes (1 ∷ 1 ∷ 7 ∷ 3 ∷ []))
    ∷ case (guard-bytes (at abort 0)) (bytes (1 ∷ 3 ∷ 4 ∷ 1 ∷ 4 ∷ 2 ∷ 4 ∷ 5 ∷ []))
    ∷ case (guard-bytes (at offer 3)) (bytes (1 ∷ 1 ∷ 1 ∷ 3 ∷ []))
    ∷ case (pass-whole (0 ∷ 1 ∷ 1 ∷ 1 ∷ 1 ∷ 1 ∷ [])) (whole (pass_result 0 (3 ∷ 3 ∷ 3 ∷ 3 ∷ 5 ∷ 3 ∷ [])))
    ∷ case (pass-whole (0 ∷ 2 ∷ 1 ∷ 1 ∷ 1 ∷ 1 ∷ [])) (whole (pass_result 0 (4 ∷ 4 ∷ 0 ∷ 0 ∷ 0 ∷ 0 ∷ [])))
    ∷ case (pass-record (2 ∷ 0 ∷ 1 ∷ 1 ∷ []))
    (recorded (pass_result 0 (3 ∷ 5 ∷ 3 ∷ 3 ∷ [])) (record { marks = 3 ∷ 5 ∷ 3 ∷ 3 ∷ []; classes = 0 ∷ 0 ∷ 2 ∷ 1 ∷ [] }))
    ∷ []

pub all_right : map (λ k. answer k.asked) cases ≡ map (λ k. k.told) cases
unfolding cases case answer record_of class class_of counts_as counts_above nodes_above above_within fell common_table table any all encode enc_clauses enc_events guard guard_by start_by finish_by abort_by finishing aborting is_first head_or before_in last_or above in_xor is_kind kind_number kind kind_of kind_byte parent size children children_below others keep up_from code_number pass pass_of settle settle_by settle_if close end_of ending closes bad_pick bad_answer one_or_two nothing unwalked walk meet meet_by child_settled note child_mark skip good_mark goes goes_by number_of root_mark
all_right = refl

-- an and over two tasks, of kind 03 or 08
abbrev pair : ℕ → List ℕ
pair k = k ∷ 255 ∷ 1 ∷ 0 ∷ 1 ∷ 0 ∷ []

-- the block fails with its first failed child, and the other one starts and ends afterwards; or it waits for that
abbrev early : List Event
early = at start 0 ∷ at start 1 ∷ at abort 1 ∷ at abort 0 ∷ at start 2 ∷ at commit 2 ∷ []

abbrev late : List Event
late = at start 0 ∷ at start 1 ∷ at abort 1 ∷ at start 2 ∷ at commit 2 ∷ at abort 0 ∷ []

pub ands-right : map (λ k. is_run (pair k) early ∷ is_run (pair k) late ∷ []) (3 ∷ 8 ∷ []) ≡ (true ∷ true ∷ []) ∷ (false ∷ true ∷ []) ∷ []
unfolding is_run run_from allowed applies applies_by allowed_by may_start reached_by finishes_by fails_by fresh after mark_after answer_after picked_after is_mark mark_number above in_xor is_kind kind_number kind kind_of kind_byte parent size children children_below keep up_from all any
ands-right = refl
