-- Codes by their numbers: where an event applies, at whose site it happens, and what a test over all codes tells. Assumes nothing.
use mathlib.Core.Path.{◌≡◌, refl}
use mathlib.Core.Bool.{Bool, true, false, cond}
use mathlib.Core.List.{List, [], ◌∷◌}
use mathlib.Core.Logic.{◌⊎◌, inl, inr, ⊎_elim}
use Prim.Native.Nat.{ℕ, zero, suc, ◌+◌, ◌≤◌}
use native.Mathlib.Omega.{arith}
use borrow.Author.Tests.{ne_eqb, eqb-true, eqb-false, leb-true}
use lib.Dec.{eqb, leb}
use Rattle.lists.specs.Member.{In, here, there}
use Rattle.lists.proofs.Logic.{cases, decided, and_left, and_right}
use Rattle.plan.specs.Plan.{kind_number, is_kind, kind_of}
use Rattle.plan.specs.declared.kinds.Kind.TheVariants.{Xor as xor, Conditional as conditional}
use Rattle.plan.proofs.KindLaws.{is-kind}
use Rattle.event.specs.Event.{Code, start, offer, commit, abort, answered-yes, answered-no, pick, down, code_number, code_of, is_code, applies_by}
use Rattle.event.specs.Site.{host_by}

-- all there are
unfoldable pub codes : List Code
codes = start ∷ offer ∷ commit ∷ abort ∷ answered-yes ∷ answered-no ∷ pick ∷ down ∷ []

pub in-codes : (c : Code) → In c codes
unfolding codes
in-codes start = here refl
in-codes offer = there (here refl)
in-codes commit = there (there (here refl))
in-codes abort = there (there (there (here refl)))
in-codes answered-yes = there (there (there (there (here refl))))
in-codes answered-no = there (there (there (there (there (here refl)))))
in-codes pick = there (there (there (there (there (there (here refl))))))
in-codes down = there (there (there (there (there (there (there (here refl)))))))

pub code-back : (c : Code) → code_of (code_number c) ≡ c
unfolding code_of code_number
code-back start = refl
code-back offer = refl
code-back commit = refl
code-back abort = refl
code-back answered-yes = refl
code-back answered-no = refl
code-back pick = refl
code-back down = refl

pub code_is : (c : Code) → is_code (code_number c) ≡ true
unfolding is_code code_number
code_is start = refl
code_is offer = refl
code_is commit = refl
code_is abort = refl
code_is answered-yes = refl
code_is answered-no = refl
code_is pick = refl
code_is down = refl

pub code-range : (n : ℕ) → is_code n ≡ true → (1 ≤ n) × (n ≤ 8)
unfolding is_code
code-range n h = (leb-true 1 n (and_left _ _ h), leb-true n 8 (and_right (leb 1 n) _ h))

-- one of two neighbours
pub two : (m n : ℕ) → m ≤ n → n ≤ m + 1 → (n ≡ m) ⊎ (n ≡ m + 1)
two m n a b = cases (decided (eqb n m)) (λ e. inl (eqb-true n m e)) (λ e. let q = eqb-false n m e in inr (omega arith))

pub code-down : (n : ℕ) → (1 ≤ n → n ≤ 7 → ⊥) → code_of n ≡ down
unfolding code_of
code-down n h =
    let ne : (m : ℕ) → 1 ≤ m → m ≤ 7 → eqb n m ≡ false = λ m a b. ne_eqb n m (λ e. h (rw e a) (rw e b)) in
    simp (
      ne 1 (omega arith) (omega arith),
      ne 2 (omega arith) (omega arith),
      ne 3 (omega arith) (omega arith),
      ne 4 (omega arith) (omega arith),
      ne 5 (omega arith) (omega arith),
      ne 6 (omega arith) (omega arith),
      ne 7 (omega arith) (omega arith),
    )

-- a code's number is read back
pub code-number : (n : ℕ) → is_code n ≡ true → code_number (code_of n) ≡ n
unfolding code_number code_of
code-number n h = go n (code-range n h).0 (code-range n h).1
  where
    go : (n : ℕ) → 1 ≤ n → n ≤ 8 → code_number (code_of n) ≡ n
    go zero a b = absurd (omega arith)
    go (suc zero) a b = refl
    go (suc (suc zero)) a b = refl
    go (suc (suc (suc zero))) a b = refl
    go (suc (suc (suc (suc zero)))) a b = refl
    go (suc (suc (suc (suc (suc zero))))) a b = refl
    go (suc (suc (suc (suc (suc (suc zero)))))) a b = refl
    go (suc (suc (suc (suc (suc (suc (suc zero))))))) a b = refl
    go (suc (suc (suc (suc (suc (suc (suc (suc n)))))))) a b = let e : n ≡ 0 = omega arith in rw e

-- applicability by the code's number and the kinds' bytes
module _ (n above kind : ℕ) where
  choice : applies_by offer (kind_of kind) (is_kind xor (kind_of above)) ≡ eqb above 5
  unfolding applies_by kind_number
  choice = is-kind xor above (omega arith)

  answer : applies_by answered-yes (kind_of kind) (is_kind xor (kind_of above)) ≡ eqb kind 7
  unfolding applies_by kind_number
  answer = is-kind conditional kind (omega arith)

  pub applies-start : n ≡ 1 → applies_by (code_of n) (kind_of kind) (is_kind xor (kind_of above)) ≡ true
  unfolding code_of applies_by
  applies-start e = rw e

  pub applies-end : 3 ≤ n → n ≤ 4 → applies_by (code_of n) (kind_of kind) (is_kind xor (kind_of above)) ≡ true
  unfolding code_of applies_by
  applies-end a b = ⊎_elim (λ e. rw e) (λ e. rw e) (two 3 n a b)

  pub applies-offer : n ≡ 2 → applies_by (code_of n) (kind_of kind) (is_kind xor (kind_of above)) ≡ eqb above 5
  unfolding code_of applies_by
  applies-offer e = rw e choice

  pub applies-choice : 7 ≤ n → n ≤ 8 → applies_by (code_of n) (kind_of kind) (is_kind xor (kind_of above)) ≡ eqb above 5
  unfolding code_of applies_by
  applies-choice a b = ⊎_elim (λ e. rw e choice) (λ e. rw e choice) (two 7 n a b)

  pub applies-answer : 5 ≤ n → n ≤ 6 → applies_by (code_of n) (kind_of kind) (is_kind xor (kind_of above)) ≡ eqb kind 7
  unfolding code_of applies_by
  applies-answer a b = ⊎_elim (λ e. rw e answer) (λ e. rw e answer) (two 5 n a b)

-- a pick happens at the parent's site, any other event at the node's own
own-not : (a b c d e f : Bool) (v u : ℕ) → host_by (cond a start (cond b offer (cond c commit (cond d abort (cond e answered-yes (cond f answered-no down)))))) v u ≡ v
unfolding host_by
own-not true b c d e f v u = refl
own-not false true c d e f v u = refl
own-not false false true d e f v u = refl
own-not false false false true e f v u = refl
own-not false false false false true f v u = refl
own-not false false false false false true v u = refl
own-not false false false false false false v u = refl

pub host-own : (n v u : ℕ) → (n ≡ 7 → ⊥) → host_by (code_of n) v u ≡ v
unfolding code_of
host-own n v u h = rw (ne_eqb n 7 h) (own-not (eqb n 1) (eqb n 2) (eqb n 3) (eqb n 4) (eqb n 5) (eqb n 6) v u)

pub host-pick : (n v u : ℕ) → n ≡ 7 → host_by (code_of n) v u ≡ u
unfolding code_of host_by
host-pick n v u e = rw e
