-- Events of small plans and what the writer makes of them, beside P1 to P8 (crates/runs/proofs/Cases.antt): lines of the table that these leave out,
-- the limits, and every refusal of the writer itself. Assumes nothing.
use Rattle.std.proofs.Common.{◌≡◌, refl, List, [], ◌∷◌, ◌++◌, map, ℕ, length, replicate}
use Rattle.lists.specs.Seq.{keep, up_from, all_below, last_or, head_or}
use Rattle.plan.specs.Plan.{kind_number, is_kind, kind_of, size, kind_byte, kind, parent, children_below, children, child_count, others, above, in_xor, depth_within, depth}
use Rattle.plan.specs.Check.{length_ok, kind_ok, parent_ok, under_block, fits, count_ok, depth_ok, at_all, check_number, fit_number}
use Rattle.event.specs.Event.{code_number, code_of, is_code, event_of, applies_by, applies, known}
use Rattle.event.specs.Valid.{event_fault, invalid}
use Rattle.guard.specs.Guard.{is_first, before_in, start_by, finish_by, abort_by, finishing, aborting, guard_by, guard}
use Rattle.guard.specs.Rule.{rule_byte}
use Rattle.guard.specs.Bytes.{enc_events, enc_clauses, encode}
use Rattle.guard.proofs.Cases.{tasks, xor_of}
use Rattle.writer.specs.Written.{filled, written, fitted, write_of}
use Rattle.writer.specs.Written.{Written}
use Rattle.writer.specs.Written.{Done, Refused}

pub record Case : Type 0 where
  pub plan : List ℕ
  pub code : ℕ
  pub node : ℕ
  pub buffer : List ℕ
  pub left : List ℕ
  pub answer : Written

-- the guard is written into a buffer with one byte to spare, which stays
writes : List ℕ → ℕ → ℕ → List ℕ → Case
writes p code node bytes =
    record { plan = p; code = code; node = node; buffer = replicate (length bytes) 0 ++ (0xff ∷ []); left = bytes ++ (0xff ∷ []); answer = Done (written (length bytes) (rule_byte p (event_of code node))) }

-- a buffer of zeros is left
refuses : List ℕ → ℕ → ℕ → ℕ → ℕ → Case
refuses p code node room n = record { plan = p; code = code; node = node; buffer = replicate room 0; left = replicate room 0; answer = Refused n }

plan_p : List ℕ
plan_p = 0x02 ∷ 0xff ∷ 0x01 ∷ 0x00 ∷ 0x05 ∷ 0x00 ∷ 0x01 ∷ 0x02 ∷ 0x01 ∷ 0x02 ∷ 0x01 ∷ 0x00 ∷ []

-- a contingency with three tasks, and a conditional
last_chance : List ℕ
last_chance = 0x06 ∷ 0xff ∷ tasks 3

branch : List ℕ
branch = 0x07 ∷ 0xff ∷ tasks 2

-- an and with two tasks, of kind 03 or 08
both : ℕ → List ℕ
both k = k ∷ 0xff ∷ tasks 2

pub table : List Case
table =
    writes plan_p 7 3 (0x01 ∷ 0x01 ∷ 0x02 ∷ 0x03 ∷ [])
    ∷ writes (xor_of 1) 8 1 (0x02 ∷ 0x01 ∷ 0x02 ∷ 0x01 ∷ 0x00 ∷ [])
    ∷ writes last_chance 1 1 (0x01 ∷ 0x01 ∷ 0x01 ∷ 0x00 ∷ [])
    ∷ writes last_chance 1 3 (0x01 ∷ 0x01 ∷ 0x04 ∷ 0x02 ∷ [])
    ∷ writes branch 1 2 (0x01 ∷ 0x01 ∷ 0x06 ∷ 0x00 ∷ [])
    ∷ writes branch 5 0 (0x01 ∷ 0x01 ∷ 0x01 ∷ 0x00 ∷ [])
    ∷ writes (both 3) 4 0 (0x01 ∷ 0x02 ∷ 0x04 ∷ 0x01 ∷ 0x04 ∷ 0x02 ∷ [])
    ∷ writes (both 8) 4 0 (0x03 ∷ 0x02 ∷ 0x03 ∷ 0x01 ∷ 0x04 ∷ 0x01 ∷ 0x02 ∷ 0x03 ∷ 0x02 ∷ 0x04 ∷ 0x02 ∷ 0x02 ∷ 0x04 ∷ 0x01 ∷ 0x04 ∷ 0x02 ∷ [])
    ∷ refuses plan_p 3 2 19 7
    ∷ refuses plan_p 1 0 0 7
    ∷ refuses plan_p 9 0 0 8
    ∷ refuses plan_p 1 6 0 8
    ∷ refuses plan_p 2 1 0 9
    ∷ refuses (0x02 ∷ 0xff ∷ []) 9 0 0 5
    ∷ []

pub all_right : map (λ k. write_of k.plan k.code k.node k.buffer) table ≡ map (λ k. filled k.left k.answer) table
unfolding table writes refuses plan_p tasks xor_of last_chance branch both write_of fitted encode enc_clauses enc_events code_number guard guard_by start_by finish_by
    abort_by finishing aborting is_first head_or before_in last_or code_of is_code applies_by applies known event_fault invalid kind_number is_kind kind_of size kind_byte kind parent
    children_below children child_count others above in_xor depth_within depth keep up_from all_below length_ok kind_ok parent_ok under_block fits count_ok depth_ok at_all check_number fit_number
all_right = refl
