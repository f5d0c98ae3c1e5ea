-- A kind byte: which kind it is, and the kind above a node. Assumes nothing.
use mathlib.Core.Path.{◌≡◌, refl, sym, ◌∙◌, ap}
use mathlib.Core.Bool.{Bool, true, false, cond}
use mathlib.Core.List.{List}
use mathlib.Core.Logic.{◌⊎◌, inl, inr, ⊎_elim}
use Prim.Native.Nat.{ℕ, ◌≤◌, ◌<◌}
use lib.Dec.{eqb}
use borrow.Author.Tests.{ne_eqb, eqb-true, eqb-false}
use native.Mathlib.Omega.{arith}
use Rattle.lists.specs.Seq.{up_from}
use Rattle.lists.proofs.Between.{between}
use Rattle.lists.proofs.Logic.{cases, clash, decided, no_bool}
use Rattle.plan.specs.Plan.{kind_number, is_kind, kind_of, kind_byte, kind, parent, above, above_byte}
use Rattle.plan.specs.declared.kinds.Kind.{Kind}
use Rattle.plan.specs.declared.kinds.Kind.TheVariants.{Task as task, Serial as serial, And as and, Or as or, Xor as xor, Contingency as contingency, Conditional as conditional, Waiting as waiting}

pub kind-task : (p : List ℕ) (v : ℕ) → kind_byte p v ≡ 1 → kind p v ≡ task
unfolding kind kind_of
kind-task p v e = rw e

-- a byte that is no block's kind is a task's
pub kind-other : (k : ℕ) → (2 ≤ k → k ≤ 8 → ⊥) → kind_of k ≡ task
unfolding kind_of
kind-other k h =
    let ne : (m : ℕ) → 2 ≤ m → m ≤ 8 → eqb k m ≡ false = λ m a b. ne_eqb k m (λ e. h (rw e a) (rw e b)) in
    simp (
      ne 2 (omega arith) (omega arith),
      ne 3 (omega arith) (omega arith),
      ne 4 (omega arith) (omega arith),
      ne 5 (omega arith) (omega arith),
      ne 6 (omega arith) (omega arith),
      ne 7 (omega arith) (omega arith),
      ne 8 (omega arith) (omega arith),
    )

-- and a byte that is one's is no task's
pub kind-block : (k : ℕ) → 2 ≤ k → k ≤ 8 → is_kind task (kind_of k) ≡ false
unfolding is_kind kind_number kind_of up_from
kind-block k l h = between (λ j. is_kind task (kind_of j)) (λ j. false) 2 7 refl k l (omega arith)

pub block-kind : (p : List ℕ) (v : ℕ) → 2 ≤ kind_byte p v → kind_byte p v ≤ 8 → kind p v ≡ task → ⊥
unfolding kind is_kind kind_number
block-kind p v l h e = clash (is_kind task (kind p v)) (ap (is_kind task) e) (kind-block (kind_byte p v) l h)

-- the kind above, read off its byte
pub above-byte : (p : List ℕ) (v : ℕ) → above p v ≡ kind_of (above_byte p v)
unfolding above above_byte kind kind_of
above-byte p v = go (eqb v 0)
  where
    go : (b : Bool) → cond b task (kind_of (kind_byte p (parent p v))) ≡ kind_of (cond b 1 (kind_byte p (parent p v)))
    go true = refl
    go false = refl

-- a byte's kind has that byte, or is a task
abbrev Back : ℕ → Kind → Type 0
Back k r = (kind_number r ≡ k) ⊎ (kind_number r ≡ 1)

back-or : (k : ℕ) (j r : Kind) → Back k r → Back k (cond (eqb k (kind_number j)) j r)
back-or k j r h = go (eqb k (kind_number j)) refl
  where
    go : (b : Bool) → eqb k (kind_number j) ≡ b → Back k (cond b j r)
    go true e = inl (sym (eqb-true k (kind_number j) e))
    go false e = h

back : (k : ℕ) → Back k (kind_of k)
unfolding kind_of kind_number
back k =
    back-or k serial _ (back-or k and _ (back-or k or _ (back-or k xor _ (back-or k contingency _ (back-or k conditional _ (back-or k waiting task (inr refl)))))))

kind-number : (j : Kind) → kind_of (kind_number j) ≡ j
unfolding kind_of kind_number
kind-number task = refl
kind-number serial = refl
kind-number and = refl
kind-number or = refl
kind-number xor = refl
kind-number contingency = refl
kind-number conditional = refl
kind-number waiting = refl

kind-same : (j : Kind) → is_kind j j ≡ true
unfolding is_kind kind_number
kind-same task = refl
kind-same serial = refl
kind-same and = refl
kind-same or = refl
kind-same xor = refl
kind-same contingency = refl
kind-same conditional = refl
kind-same waiting = refl

-- a kind is known by its test
pub same_kind : (j k : Kind) → is_kind j k ≡ true → k ≡ j
unfolding is_kind
same_kind j k h = sym (kind-number k) ∙ ap kind_of (sym (eqb-true (kind_number j) (kind_number k) h)) ∙ kind-number j

-- the byte's test says what the kind's does, for every kind but a task
pub is-kind : (j : Kind) (k : ℕ) → 1 < kind_number j → is_kind j (kind_of k) ≡ eqb k (kind_number j)
unfolding is_kind
is-kind j k l = cases (decided (eqb k (kind_number j)))
    (λ e. rw (e, eqb-true k (kind_number j) e, kind-number j) (kind-same j))
    (λ e. rw e (no_bool (is_kind j (kind_of k)) (λ h.
    let q = eqb-true (kind_number j) (kind_number (kind_of k)) h in
    ⊎_elim (λ b. eqb-false k (kind_number j) e (sym (q ∙ b))) (λ b. omega arith) (back k))))
