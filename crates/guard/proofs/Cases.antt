-- The longest guard, and an event of a small plan for each rule. Assumes nothing.
use mathlib.Core.Path.{◌≡◌, refl}
use mathlib.Core.List.{List, [], ◌∷◌, ◌++◌, map}
use Prim.Native.Nat.{ℕ, zero, suc}
use lib.ListN.{length}
use Rattle.lists.specs.Seq.{keep, up_from, all_below}
use Rattle.plan.specs.Plan.{kind_number, is_kind, kind_of, size, kind_byte, kind, parent, children_below, children, child_count, above, above_byte, in_xor, depth_within, depth}
use Rattle.plan.specs.Check.{length_ok, kind_ok, parent_ok, under_block, fits, count_ok, depth_ok, at_all, check_number, fit_number}
use Rattle.event.specs.Event.{code_number, code_of, is_code, applies_by, applies, known, commit, at}
use Rattle.event.specs.Valid.{event_fault, invalid}
use Rattle.guard.specs.Guard.{finish_by, finishing, guard_by, guard}
use Rattle.guard.specs.Rule.{rule_kind, is_picked, rule_byte, rule_bytes, found_rule, rule_answer}
use Rattle.guard.specs.Bytes.{enc_events, enc_clauses, encode}

-- an xor with n tasks
unfoldable pub tasks : ℕ → List ℕ
tasks zero = []
tasks (suc n) = 0x01 ∷ 0x00 ∷ tasks n

unfoldable pub xor_of : ℕ → List ℕ
xor_of n = 0x05 ∷ 0xff ∷ tasks n

-- the finish of an xor with 32 children reaches the bound of guard-short
pub longest : length (encode (guard (xor_of 32) (at commit 0))) ≡ 290
unfolding tasks xor_of encode enc_clauses enc_events guard guard_by finish_by finishing kind_number is_kind kind_of size kind_byte kind parent children_below children above
    in_xor keep up_from
longest = refl

-- events of small plans, one for each rule
pub record Rule : Type 0 where
  pub plan : List ℕ
  pub code : ℕ
  pub node : ℕ

rule : List ℕ → ℕ → ℕ → Rule
rule p code node = record { plan = p; code = code; node = node }

-- a block of the kind k with two tasks, alone and in an xor
pair_of : ℕ → List ℕ
pair_of k = k ∷ 0xff ∷ tasks 2

offers : ℕ → List ℕ
offers k = 0x05 ∷ 0xff ∷ k ∷ 0x00 ∷ 0x01 ∷ 0x01 ∷ 0x01 ∷ 0x01 ∷ []

-- its start, offer, commit and abort
of_kind : ℕ → List Rule
of_kind k = rule (pair_of k) 1 1 ∷ rule (offers k) 2 1 ∷ rule (pair_of k) 3 0 ∷ rule (pair_of k) 4 0 ∷ []

pub every_rule : List Rule
every_rule =
    rule (pair_of 2) 1 0
    ∷ rule (xor_of 1) 2 1 ∷ rule (pair_of 2) 3 1 ∷ rule (pair_of 2) 4 1
    ∷ of_kind 2 ++ of_kind 3 ++ of_kind 4 ++ of_kind 5 ++ (rule (pair_of 5) 7 1 ∷ rule (pair_of 5) 8 1 ∷ []) ++ of_kind 6
    ++ of_kind 7 ++ (rule (pair_of 7) 5 0 ∷ rule (pair_of 7) 6 0 ∷ [])
    ++ of_kind 8 ++ (rule (xor_of 1) 3 1 ∷ [])

-- each is valid, and in this order they are the listed bytes
pub every_byte : map (λ k. rule_answer k.plan k.code k.node) every_rule ≡ map (found_rule 0) rule_bytes
unfolding every_rule rule pair_of offers of_kind tasks xor_of rule_answer rule_bytes rule_kind is_picked rule_byte above_byte code_number code_of is_code applies_by applies known event_fault invalid
    kind_number is_kind kind_of size kind_byte kind parent children_below children child_count above in_xor depth_within depth keep up_from all_below length_ok kind_ok parent_ok
    under_block fits count_ok depth_ok at_all check_number fit_number
every_byte = refl
