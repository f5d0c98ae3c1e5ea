-- The rule on the plan `02ff 0100 0500 0102 0102 0100`: single answers, and a run with the bytes that it leaves. Assumes nothing.
use mathlib.Core.Path.{◌≡◌, refl}
use mathlib.Core.Bool.{true}
use mathlib.Core.List.{List, [], ◌∷◌, map}
use Prim.Native.Nat.{ℕ}
use Rattle.lists.specs.Seq.{all, any, keep, up_from, all_below, earlier}
use Rattle.plan.specs.Plan.{kind_number, is_kind, kind_of, size, kind_byte, kind, parent, children_below, children, child_count, others, above, in_xor, depth_within, depth}
use Rattle.plan.specs.Check.{length_ok, kind_ok, parent_ok, under_block, fits, count_ok, depth_ok, at_all, check_number, fit_number}
use Rattle.event.specs.Event.{start, offer, commit, pick, down, code_number, code_of, is_code, Event, at, applies_by, applies, known}
use Rattle.event.specs.Bit.{weight, has_bit, with_bit}
use Rattle.event.specs.Valid.{event_fault, invalid}
use Rattle.central.specs.Mark.{mark_number, is_mark, mark_of}
use Rattle.central.specs.Central.{mark_after, is_yes, is_no, reached_by, may_start, of_branch, finishes_by, fails_by, allowed_by, allowed}
use Rattle.central.specs.Rule.{answer_of, state_of, noted, marks_after, notes_after, Ruled, ruled, right_size, rule_invalid, rule_on, rule_of, ruling_value}
use Rattle.central.specs.Replay.{all_allowed, marks_left, notes_left}
use Rattle.central.specs.Ruling.{Allowed, Forbidden, Refused}

pub plan : List ℕ
plan = 2 ∷ 255 ∷ 1 ∷ 0 ∷ 5 ∷ 0 ∷ 1 ∷ 2 ∷ 1 ∷ 2 ∷ 1 ∷ 0 ∷ []

pub six : ℕ → ℕ → ℕ → ℕ → ℕ → ℕ → List ℕ
six a b c d e f = a ∷ b ∷ c ∷ d ∷ e ∷ f ∷ []

pub none : List ℕ
none = six 0 0 0 0 0 0

-- both children of the xor have offered; the first is then picked
offers : List ℕ
offers = six 1 3 1 2 2 0

pub picked : List ℕ
picked = six 0 0 0 64 0 0

-- an event on marks and notes, and what the rule answers and leaves
pub record Case : Type 0 where
  pub code : ℕ
  pub node : ℕ
  pub marks : List ℕ
  pub notes : List ℕ
  pub left : Ruled

case : ℕ → ℕ → List ℕ → List ℕ → Ruled → Case
case c v m n r = record { code = c; node = v; marks = m; notes = n; left = r }

pub cases : List Case
cases =
    case 1 0 none none (ruled (six 1 0 0 0 0 0) none Allowed)
    ∷ case 1 5 (six 1 3 1 0 0 0) none (ruled (six 1 3 1 0 0 0) none Forbidden)
    ∷ case 1 5 (six 1 3 3 3 5 0) picked (ruled (six 1 3 3 3 5 1) picked Allowed)
    ∷ case 4 3 (six 1 3 1 1 2 0) none (ruled (six 1 3 1 4 2 0) none Allowed)
    ∷ case 4 3 offers none (ruled offers none Forbidden)
    ∷ case 7 3 offers none (ruled offers picked Allowed)
    ∷ case 7 4 offers picked (ruled offers picked Forbidden)
    ∷ case 8 4 offers none (ruled offers none Forbidden)
    ∷ case 8 4 offers picked (ruled (six 1 3 1 2 5 0) picked Allowed)
    ∷ case 8 3 offers picked (ruled offers picked Forbidden)
    ∷ case 3 2 (six 1 3 1 3 5 0) picked (ruled (six 1 3 3 3 5 0) picked Allowed)
    ∷ case 3 2 (six 1 3 1 3 200 0) picked (ruled (six 1 3 3 3 200 0) picked Allowed)
    ∷ case 3 2 (six 1 3 1 3 2 0) picked (ruled (six 1 3 1 3 2 0) picked Forbidden)
    ∷ case 2 1 (six 1 1 0 0 0 0) none (ruled (six 1 1 0 0 0 0) none (Refused 9))
    ∷ case 1 6 none none (ruled none none (Refused 8))
    ∷ case 9 0 none none (ruled none none (Refused 8))
    ∷ case 1 0 none [] (ruled none [] (Refused 7))
    ∷ []

pub run : List Event
run =
    at start 0 ∷ at start 1 ∷ at commit 1 ∷ at start 2 ∷ at start 3 ∷ at start 4 ∷ at offer 3 ∷ at offer 4 ∷ at pick 3 ∷ at commit 3
    ∷ at down 4 ∷ at commit 2 ∷ at start 5 ∷ at commit 5 ∷ at commit 0 ∷ []

-- the single answers; each event of the run is allowed, and these are the bytes at its end
pub all_right :
    (map (λ k. rule_of plan k.code k.node k.marks k.notes) cases ≡ map (λ k. k.left) cases)
    × (all_allowed plan run none none ≡ true)
    × (marks_left plan run none none ≡ six 3 3 3 3 5 3)
    × (notes_left plan run none none ≡ picked)
unfolding plan six none offers picked case cases run all_allowed marks_left notes_left ruling_value rule_of rule_invalid right_size rule_on state_of answer_of noted marks_after notes_after event_fault invalid known applies applies_by is_code code_number code_of weight has_bit with_bit mark_number is_mark mark_of mark_after is_yes is_no reached_by may_start of_branch finishes_by fails_by allowed_by allowed fit_number check_number length_ok at_all kind_ok parent_ok under_block fits count_ok depth_ok kind_number is_kind kind_of size kind_byte kind parent children_below children child_count others above in_xor depth_within depth all any keep up_from all_below earlier
all_right = (refl, refl, refl, refl)
