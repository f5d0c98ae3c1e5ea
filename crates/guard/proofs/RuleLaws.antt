-- The rule behind a guard by the numbers of code and kind, and that only the listed bytes occur. Assumes nothing.
use mathlib.Core.Path.{◌≡◌, refl, sym, ◌∙◌}
use mathlib.Core.Bool.{Bool, true, false, cond, ◌&&◌, ◌||◌, not}
use mathlib.Core.List.{List}
use Prim.Native.Nat.{ℕ, ◌+◌, ◌*◌, ◌≤◌, ◌<◌}
use native.Mathlib.Omega.{arith}
use borrow.Author.Tests.{eq-eqb, ne_eqb, eqb-true, eqb-false, ltb-true, le-leb}
use lib.Dec.{eqb, ltb, leb}
use Rattle.lists.specs.Seq.{any, all_below}
use Rattle.lists.proofs.Logic.{cases, decided, and_left, and_right, and-join, clash}
use Rattle.lists.proofs.Below.{below_at}
use Rattle.plan.specs.Plan.{kind_number, is_kind, kind, size, kind_byte, parent, above_byte, in_xor}
use Rattle.plan.specs.declared.kinds.Kind.TheVariants.{Xor as xor, Conditional as conditional}
use Rattle.plan.specs.Check.{Accepted}
use Rattle.plan.proofs.KindLaws.{kind-task, above-byte, is-kind}
use Rattle.plan.proofs.AcceptedLaws.{parent_in, parent-block}
use Rattle.event.specs.Event.{Code, start, offer, commit, abort, answered-yes, answered-no, pick, down, code_number, code_of, is_code, Event, at, event_of, applies_by, applies}
use Rattle.event.specs.Valid.{invalid}
use Rattle.event.proofs.CodeLaws.{code-number, code-down}
use Rattle.guard.proofs.Between.{not-between}
use Rattle.guard.specs.Rule.{rule_kind, is_picked, rule_byte, rule_bytes, RuleClosed, found_rule, rule_answer}

-- by the code's number
pub rule-kind-number : (p : List ℕ) (v : ℕ) (c : Code)
    → rule_kind p c v ≡ cond (eqb (code_number c) 1) (cond (eqb v 0) 0 (above_byte p v)) (cond (leb 7 (code_number c)) (above_byte p v) (kind_byte p v))
unfolding rule_kind code_number
rule-kind-number p v start = refl
rule-kind-number p v offer = refl
rule-kind-number p v commit = refl
rule-kind-number p v abort = refl
rule-kind-number p v answered-yes = refl
rule-kind-number p v answered-no = refl
rule-kind-number p v pick = refl
rule-kind-number p v down = refl

pub in-xor : (p : List ℕ) (v : ℕ) → in_xor p v ≡ eqb (above_byte p v) 5
unfolding in_xor kind_number
in-xor p v = rw (above-byte p v) (is-kind xor (above_byte p v) (omega arith))

-- the kind above a node other than the root is a block's
module _ {p : List ℕ} (a : Accepted p) {v : ℕ} (l : v < size p) where
  above-kind : (v ≡ 0 → ⊥) → above_byte p v ≡ kind_byte p (parent p v)
  unfolding above_byte
  above-kind h = rw (ne_eqb v 0 h)

  above_low : (v ≡ 0 → ⊥) → 2 ≤ above_byte p v
  above_low h =
      let q = parent_in p a v (omega arith) l in
      let k : kind_byte p (parent p v) ≡ 1 → ⊥ = λ e. parent-block p a v (omega arith) l (kind-task p (parent p v) e) in
      omega (arith, above-kind h, a.low (parent p v) q)

  pub above-high : above_byte p v ≤ 8
  unfolding above_byte
  above-high = cases (decided (eqb v 0))
      (λ e. rw e (omega arith))
      (λ e. rw e (let q = a.high (parent p v) (parent_in p a v (let h = eqb-false v 0 e in omega arith) l) in omega arith))

  pub kind-high : kind_byte p v ≤ 8
  kind-high = let h = a.high v l in omega arith

  pub rule-kind-high : (c : Code) → rule_kind p c v ≤ 8
  unfolding rule_kind
  rule-kind-high start = cases (decided (eqb v 0)) (λ e. rw e (omega arith)) (λ e. rw e above-high)
  rule-kind-high offer = kind-high
  rule-kind-high commit = kind-high
  rule-kind-high abort = kind-high
  rule-kind-high answered-yes = kind-high
  rule-kind-high answered-no = kind-high
  rule-kind-high pick = above-high
  rule-kind-high down = above-high

-- the byte, by the code's number
pub rule-digits : (p : List ℕ) (e : Event) → is_picked p e ≡ false → rule_byte p e ≡ 16 * rule_kind p e.code e.node + code_number e.code
unfolding rule_byte
rule-digits p e h = rw h

pub rule-picked : (p : List ℕ) (e : Event) → is_picked p e ≡ true → rule_byte p e ≡ 0xf3
unfolding rule_byte
rule-picked p e h = rw h

-- a byte is listed if its digits are a kind and a code
listed : ℕ → Bool
listed b = any (eqb b) rule_bytes

from : ℕ → ℕ → ℕ → Bool
from low n k = not (leb low k) || listed (16 * k + n)

all_start : all_below (from 2 1) 9 ≡ true
unfolding from listed rule_bytes any all_below
all_start = refl

all-offer : all_below (from 1 2) 9 ≡ true
unfolding from listed rule_bytes any all_below
all-offer = refl

all-commit : all_below (from 1 3) 9 ≡ true
unfolding from listed rule_bytes any all_below
all-commit = refl

all-abort : all_below (from 1 4) 9 ≡ true
unfolding from listed rule_bytes any all_below
all-abort = refl

in_list : (low n k : ℕ) → all_below (from low n) 9 ≡ true → low ≤ k → k ≤ 8 → listed (16 * k + n) ≡ true
unfolding from
in_list low n k h l m = rw (le-leb low k l) at (below_at (from low n) 9 k h (omega arith))

root-listed : listed (16 * 0 + 1) ≡ true
unfolding listed rule_bytes any
root-listed = refl

picked-listed : listed 0xf3 ≡ true
unfolding listed rule_bytes any
picked-listed = refl

module _ {p : List ℕ} (a : Accepted p) {v : ℕ} (l : v < size p) where
  by_digits : (c : Code) → (eqb (code_number c) 3 ≡ true → in_xor p v ≡ false) → listed (16 * rule_kind p c v + code_number c) ≡ true → listed (rule_byte p (at c v)) ≡ true
  unfolding is_picked
  by_digits c h m = rw (rule-digits p (at c v) (cases (decided (eqb (code_number c) 3)) (λ e. rw (e, h e)) (λ e. rw e))) m

  start-listed : listed (16 * rule_kind p start v + 1) ≡ true
  unfolding rule_kind
  start-listed = cases (decided (eqb v 0))
      (λ e. rw e root-listed)
      (λ e. rw e (in_list 2 1 (above_byte p v) all_start (above_low a l (eqb-false v 0 e)) (above-high a l)))

  own-listed : (n : ℕ) → all_below (from 1 n) 9 ≡ true → listed (16 * kind_byte p v + n) ≡ true
  own-listed n h = in_list 1 n (kind_byte p v) h (a.low v l) (kind-high a l)

  conditional-listed : (n : ℕ) → is_kind conditional (kind p v) ≡ true → listed (16 * 7 + n) ≡ true → listed (16 * kind_byte p v + n) ≡ true
  unfolding kind kind_number
  conditional-listed n h m = rw (eqb-true (kind_byte p v) 7 (sym (is-kind conditional (kind_byte p v) (omega arith)) ∙ h)) m

  xor-listed : (n : ℕ) → in_xor p v ≡ true → listed (16 * 5 + n) ≡ true → listed (16 * above_byte p v + n) ≡ true
  xor-listed n h m = rw (eqb-true (above_byte p v) 5 (sym (in-xor p v) ∙ h)) m

  closed : (c : Code) → applies_by c (kind p v) (in_xor p v) ≡ true → listed (rule_byte p (at c v)) ≡ true
  unfolding code_number rule_kind is_picked applies_by listed rule_bytes any
  closed start h = by_digits start (λ e. clash _ e refl) start-listed
  closed offer h = by_digits offer (λ e. clash _ e refl) (own-listed 2 all-offer)
  closed commit h = cases (decided (in_xor p v))
      (λ e. rw (rule-picked p (at commit v) e) picked-listed)
      (λ e. by_digits commit (λ _. e) (own-listed 3 all-commit))
  closed abort h = by_digits abort (λ e. clash _ e refl) (own-listed 4 all-abort)
  closed answered-yes h = by_digits answered-yes (λ e. clash _ e refl) (conditional-listed 5 h refl)
  closed answered-no h = by_digits answered-no (λ e. clash _ e refl) (conditional-listed 6 h refl)
  closed pick h = by_digits pick (λ e. clash _ e refl) (xor-listed 7 h refl)
  closed down h = by_digits down (λ e. clash _ e refl) (xor-listed 8 h refl)

pub rule-closed : RuleClosed
unfolding applies listed
rule-closed p e a h =
    let t = applies_by e.code (kind p e.node) (in_xor p e.node) in
    closed a (ltb-true e.node (size p) (and_left (ltb e.node (size p)) t h)) e.code (and_right (ltb e.node (size p)) t h)

number-high : (c : Code) → code_number c ≤ 8
unfolding code_number
number-high start = omega arith
number-high offer = omega arith
number-high commit = omega arith
number-high abort = omega arith
number-high answered-yes = omega arith
number-high answered-no = omega arith
number-high pick = omega arith
number-high down = omega arith

-- the arms of rule_kind, for the code of a number
module _ (p : List ℕ) (v n : ℕ) (low : 1 ≤ n) (high : n ≤ 8) where
  number : code_number (code_of n) ≡ n
  unfolding is_code
  number = code-number n (and-join _ _ (le-leb 1 n low) (le-leb n 8 high))

  pub rule-kind-root : (eqb n 1 && eqb v 0) ≡ true → 0 ≡ rule_kind p (code_of n) v
  rule-kind-root h = sym (rule-kind-number p v (code_of n) ∙ rw (number, and_left (eqb n 1) (eqb v 0) h, and_right (eqb n 1) (eqb v 0) h))

  pub rule-kind-above : (eqb n 1 && eqb v 0) ≡ false → (eqb n 1 || leb 7 n) ≡ true → above_byte p v ≡ rule_kind p (code_of n) v
  rule-kind-above h k = sym (rule-kind-number p v (code_of n) ∙ cases (decided (eqb n 1))
      (λ e. rw (number, e, rw e at h))
      (λ e. rw (number, e, rw e at k)))

  pub rule-kind-own : (eqb n 1 || leb 7 n) ≡ false → kind_byte p v ≡ rule_kind p (code_of n) v
  rule-kind-own k = sym (rule-kind-number p v (code_of n) ∙ cases (decided (eqb n 1))
      (λ e. clash (eqb n 1 || leb 7 n) (rw e) k)
      (λ e. rw (number, e, rw e at k)))

  -- and the ways out of rule_number
  pub rule-f3 : (eqb n 3 && eqb (above_byte p v) 5) ≡ true → 0xf3 ≡ rule_byte p (event_of n v)
  unfolding is_picked
  rule-f3 h = sym (rule-picked p (event_of n v) (rw (number, in-xor p v) h))

  pub rule-plain : (eqb n 3 && eqb (above_byte p v) 5) ≡ false → 16 * rule_kind p (code_of n) v + n ≡ rule_byte p (event_of n v)
  unfolding is_picked
  rule-plain h = sym (rule-digits p (event_of n v) (rw (number, in-xor p v) h) ∙ rw number)

-- what is no code is read as the last one
pub read-last : (n : ℕ) → (leb 1 n && leb n 7) ≡ false → code_of 8 ≡ code_of n
unfolding code_of
read-last n h = sym (code-down n (not-between 1 7 n h))

-- and the number is a byte
pub rule-small : {p : List ℕ} → Accepted p → {v : ℕ} → v < size p → (n : ℕ) → rule_byte p (event_of n v) < 256
rule-small {p} a {v} l n = cases (decided (is_picked p (event_of n v)))
    (λ e. omega (arith, rule-picked p (event_of n v) e))
    (λ e. omega (arith, rule-digits p (event_of n v) e, rule-kind-high a l (code_of n), number-high (code_of n)))

-- the answers of `rule`
module _ (p : List ℕ) (code node : ℕ) {n : ℕ} (e : n ≡ invalid p true true code node) where
  pub answer-refused : (n ≡ 0 → ⊥) → rule_answer p code node ≡ found_rule n 0
  unfolding rule_answer
  answer-refused h = rw (← e, ne_eqb n 0 h)

  pub answer-found : {r : ℕ} → n ≡ 0 → r ≡ rule_byte p (event_of code node) → rule_answer p code node ≡ found_rule n r
  unfolding rule_answer
  answer-found z h = rw (← e, eq-eqb n 0 z, h)
