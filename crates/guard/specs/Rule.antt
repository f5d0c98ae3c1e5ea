-- The rule behind a guard, as one byte (rules C9 and C10). Definitions only.
use Rattle.std.specs.Prelude.{◌≡◌, Bool, true, cond, ◌&&◌, not, List, [], ◌∷◌, ℕ, ◌+◌, ◌*◌, eqb}
use Rattle.lists.specs.Seq.{any}
use Rattle.plan.specs.Plan.{kind_byte, above_byte, in_xor}
use Rattle.plan.specs.Check.{Accepted}
use Rattle.event.specs.Event.{Code, start, offer, commit, abort, answered-yes, answered-no, pick, down, code_number, Event, event_of, applies}
use Rattle.event.specs.Valid.{invalid}

-- C9: the high digit: the kind of the block that the guard is about, which is the parent for a start, a pick and a turned down, and the node
-- itself for the others. The root has no parent: 0
unfoldable pub rule_kind : List ℕ → Code → ℕ → ℕ
rule_kind p start v = cond (eqb v 0) 0 (above_byte p v)
rule_kind p offer v = kind_byte p v
rule_kind p commit v = kind_byte p v
rule_kind p abort v = kind_byte p v
rule_kind p answered-yes v = kind_byte p v
rule_kind p answered-no v = kind_byte p v
rule_kind p pick v = above_byte p v
rule_kind p down v = above_byte p v

-- C10: a commit that waits for a pick
unfoldable pub is_picked : List ℕ → Event → Bool
is_picked p e = eqb (code_number e.code) 3 && in_xor p e.node

-- C9 and C10: the kind's digit before the code's; a commit that waits for a pick has a number of its own
unfoldable pub rule_byte : List ℕ → Event → ℕ
rule_byte p e = cond (is_picked p e) 0xf3 (16 * rule_kind p e.code e.node + code_number e.code)

-- K2: the answer to the question for a rule: its number (H), and the rule, 0 where the question is refused
pub record FoundRule : Type 0 where
  pub number : ℕ
  pub rule : ℕ

abbrev pub found_rule : ℕ → ℕ → FoundRule
found_rule n r = record { number = n; rule = r }

-- K2: refused with 1 to 6, 8 or 9, in this order; else the rule
unfoldable pub rule_answer : List ℕ → ℕ → ℕ → FoundRule
rule_answer p code node = found_rule (invalid p true true code node) (cond (not (eqb (invalid p true true code node) 0)) 0 (rule_byte p (event_of code node)))

-- C10: the bytes that occur
unfoldable pub rule_bytes : List ℕ
rule_bytes =
    0x01
    ∷ 0x12 ∷ 0x13 ∷ 0x14
    ∷ 0x21 ∷ 0x22 ∷ 0x23 ∷ 0x24
    ∷ 0x31 ∷ 0x32 ∷ 0x33 ∷ 0x34
    ∷ 0x41 ∷ 0x42 ∷ 0x43 ∷ 0x44
    ∷ 0x51 ∷ 0x52 ∷ 0x53 ∷ 0x54 ∷ 0x57 ∷ 0x58
    ∷ 0x61 ∷ 0x62 ∷ 0x63 ∷ 0x64
    ∷ 0x71 ∷ 0x72 ∷ 0x73 ∷ 0x74 ∷ 0x75 ∷ 0x76
    ∷ 0x81 ∷ 0x82 ∷ 0x83 ∷ 0x84
    ∷ 0xf3
    ∷ []

-- CLAIM (C10). The rule of an event that applies in an accepted plan is one of these.
abbrev pub RuleClosed : Type 0
RuleClosed = (p : List ℕ) (e : Event) → Accepted p → applies p e ≡ true → any (eqb (rule_byte p e)) rule_bytes ≡ true
