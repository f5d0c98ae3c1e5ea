-- Laws of the nodes that a guard names: whose children they are, when it names any, and that its shape over them gives the guard. Assumes
-- nothing.
use mathlib.Core.Path.{◌≡◌, refl, sym, ap, ◌∙◌}
use mathlib.Core.Bool.{Bool, true, false, cond, ◌&&◌, ◌||◌, not, false≢true}
use mathlib.Core.Logic.{⊎_elim}
use mathlib.Core.List.{List, []}
use Prim.Native.Nat.{ℕ, zero, suc, ◌≤◌}
use native.Mathlib.Omega.{arith}
use borrow.Author.Tests.{ne_eqb, eqb-true, eqb-false, le-leb, leb-true, leb-false, not-false}
use lib.Dec.{eqb, leb}
use lib.ListN.{length}
use Rattle.lists.specs.Seq.{last_or}
use Rattle.lists.proofs.Logic.{cases, decided, clash, and_left, and_right, and-join}
use Rattle.plan.specs.Plan.{kind_number, is_kind, kind_of, kind_byte, kind, parent, children, above, above_byte, in_xor}
use Rattle.plan.specs.declared.kinds.Kind.{Kind}
use Rattle.plan.specs.declared.kinds.Kind.TheVariants.{Task as task, Serial as serial, And as and, Or as or, Xor as xor, Contingency as contingency, Conditional as conditional, Waiting as waiting}
use Rattle.plan.specs.Check.{Accepted}
use Rattle.plan.proofs.KindLaws.{same_kind, is-kind, kind-other, kind-block, above-byte}
use Rattle.plan.proofs.AcceptedLaws.{child-between}
use Rattle.event.specs.Event.{Code, start, offer, commit, abort, answered-yes, answered-no, pick, down, code_of, event_of}
use Rattle.event.proofs.CodeLaws.{two, code-down}
use Rattle.guard.specs.Guard.{before_in, start_by, finish_by, abort_by, finishing, aborting, guard_by, guard}
use Rattle.guard.specs.Family.{family, family_parent, left_out, in_turn, names_family, named_nodes, neighbour, names_one}
use Rattle.guard.specs.Shape.{shape_of, guard_shape, first_shape, later_shape, finish_shape, abort_shape}
use Rattle.guard.specs.declared.table.Shape.{Shape}
use Rattle.guard.proofs.Between.{in_between, not-between}
use Rattle.guard.proofs.ShapeLaws.{GivesGuard, guard_by_kinds, shape-gives, shape_same}
use Rattle.guard.proofs.FamilyLaws.{before_last, family-children, family-others, family-few}

-- by the code's number
middle : (P : Code → Type 0) → P offer → P commit → P abort → P answered-yes → P answered-no → P pick → (code : ℕ) → 2 ≤ code → code ≤ 7 → P (code_of code)
unfolding code_of
middle P o c a y n k zero l h = absurd (omega arith)
middle P o c a y n k (suc zero) l h = absurd (omega arith)
middle P o c a y n k (suc (suc zero)) l h = o
middle P o c a y n k (suc (suc (suc zero))) l h = c
middle P o c a y n k (suc (suc (suc (suc zero)))) l h = a
middle P o c a y n k (suc (suc (suc (suc (suc zero))))) l h = y
middle P o c a y n k (suc (suc (suc (suc (suc (suc zero)))))) l h = n
middle P o c a y n k (suc (suc (suc (suc (suc (suc (suc zero))))))) l h = k
middle P o c a y n k (suc (suc (suc (suc (suc (suc (suc (suc code)))))))) l h = absurd (omega arith)

module _ (p : List ℕ) (code v : ℕ) where
  pub parent-itself : (leb 2 code && leb code 7) ≡ true → v ≡ family_parent p (code_of code) v
  unfolding family_parent
  parent-itself h = let b = in_between 2 7 code h in middle (λ c. v ≡ family_parent p c v) refl refl refl refl refl refl code b.0 b.1

  pub parent_above : {u : ℕ} → u ≡ parent p v → (leb 2 code && leb code 7) ≡ false → u ≡ family_parent p (code_of code) v
  unfolding code_of family_parent
  parent_above is h = cases (decided (eqb code 1)) (λ e. rw (eqb-true code 1 e) is)
      (λ e. let n = eqb-false code 1 e in rw (code-down code (λ a b. not-between 2 7 code h (omega arith) b)) is)

module _ (code v : ℕ) where
  pub none_out : (leb 1 code && leb code 7) ≡ true → 0 ≡ left_out (code_of code) v
  unfolding code_of left_out
  none_out h = let b = in_between 1 7 code h in cases (decided (eqb code 1)) (λ e. rw (eqb-true code 1 e))
      (λ e. let n = eqb-false code 1 e in middle (λ c. 0 ≡ left_out c v) refl refl refl refl refl refl code (omega arith) b.1)

  pub self-out : (leb 1 code && leb code 7) ≡ false → v ≡ left_out (code_of code) v
  unfolding left_out
  self-out h = rw (code-down code (not-between 1 7 code h))

-- the kinds by their bytes
pub block-byte : (k : ℕ) → (leb 2 k && leb k 8) ≡ not (is_kind task (kind_of k))
unfolding is_kind kind_number
block-byte k = cases (decided (leb 2 k && leb k 8))
    (λ e. rw (e, kind-block k (leb-true 2 k (and_left _ _ e)) (leb-true k 8 (and_right (leb 2 k) _ e))))
    (λ e. rw (e, kind-other k (λ a b. clash _ (and-join _ _ (le-leb 2 k a) (le-leb k 8 b)) e)))

turn_low : (k : ℕ) → k ≤ 8 → ((eqb k 2 || eqb k 6) || eqb k 7) ≡ in_turn (kind_of k)
unfolding in_turn kind_of
turn_low zero l = refl
turn_low (suc zero) l = refl
turn_low (suc (suc zero)) l = refl
turn_low (suc (suc (suc zero))) l = refl
turn_low (suc (suc (suc (suc zero)))) l = refl
turn_low (suc (suc (suc (suc (suc zero))))) l = refl
turn_low (suc (suc (suc (suc (suc (suc zero)))))) l = refl
turn_low (suc (suc (suc (suc (suc (suc (suc zero))))))) l = refl
turn_low (suc (suc (suc (suc (suc (suc (suc (suc zero)))))))) l = refl
turn_low (suc (suc (suc (suc (suc (suc (suc (suc (suc k))))))))) l = absurd (omega arith)

pub turn_byte : (k : ℕ) → ((eqb k 2 || eqb k 6) || eqb k 7) ≡ in_turn (kind_of k)
unfolding in_turn
turn_byte k = cases (decided (leb k 8)) (λ e. turn_low k (leb-true k 8 e))
    (λ e. let l = leb-false k 8 e in rw (ne_eqb k 2 (λ q. omega arith), ne_eqb k 6 (λ q. omega arith), ne_eqb k 7 (λ q. omega arith), kind-other k (λ a b. omega arith)))

-- when the guard names any, by the code's number
module _ (code k a : ℕ) {b : Bool} where
  pub names-start : code ≡ 1 → b ≡ in_turn (kind_of a) → b ≡ names_family (code_of code) (kind_of k) (kind_of a)
  unfolding code_of names_family
  names-start e h = rw e h

  pub names-offer : code ≡ 2 → b ≡ not (is_kind task (kind_of k)) → b ≡ names_family (code_of code) (kind_of k) (kind_of a)
  unfolding code_of names_family
  names-offer e h = rw e h

  pub names-commit : code ≡ 3 → b ≡ not (is_kind task (kind_of k)) → (not (eqb a 5) && b) ≡ names_family (code_of code) (kind_of k) (kind_of a)
  unfolding code_of names_family kind_number
  names-commit e h = rw (e, is-kind xor a (omega arith), h)

  pub names-abort : code ≡ 4 → b ≡ not (is_kind task (kind_of k)) → b ≡ names_family (code_of code) (kind_of k) (kind_of a)
  unfolding code_of names_family
  names-abort e h = rw e h

module _ (code k a : ℕ) where
  pub names-answer : 5 ≤ code → code ≤ 6 → false ≡ names_family (code_of code) (kind_of k) (kind_of a)
  unfolding code_of names_family
  names-answer l h = ⊎_elim (λ e. rw e) (λ e. rw e) (two 5 code l h)

  pub names-pick : code ≡ 7 → false ≡ names_family (code_of code) (kind_of k) (kind_of a)
  unfolding code_of names_family
  names-pick e = rw e

  pub names-down : (1 ≤ code → code ≤ 7 → ⊥) → true ≡ names_family (code_of code) (kind_of k) (kind_of a)
  unfolding names_family
  names-down h = rw (code-down code h)

-- when it goes by one of them
module _ (code k a : ℕ) where
  pub one-start : code ≡ 1 → {b : Bool} → b ≡ in_turn (kind_of a) → b ≡ names_one (code_of code) (kind_of k) (kind_of a)
  unfolding code_of names_one
  one-start e h = rw e h

  pub one-offer : code ≡ 2 → eqb k 2 ≡ names_one (code_of code) (kind_of k) (kind_of a)
  unfolding code_of names_one kind_number
  one-offer e = rw (e, is-kind serial k (omega arith))

  pub one-commit : code ≡ 3 → (not (eqb a 5) && eqb k 2) ≡ names_one (code_of code) (kind_of k) (kind_of a)
  unfolding code_of names_one kind_number
  one-commit e = rw (e, is-kind xor a (omega arith), is-kind serial k (omega arith))

  pub one-abort : code ≡ 4 → eqb k 6 ≡ names_one (code_of code) (kind_of k) (kind_of a)
  unfolding code_of names_one kind_number
  one-abort e = rw (e, is-kind contingency k (omega arith))

pub one-other : (code : ℕ) (k a : Kind) → (1 ≤ code → code ≤ 4 → ⊥) → names_one (code_of code) k a ≡ false
unfolding code_of names_one
one-other code k a h = cases (decided (eqb code 5)) (λ e. rw (eqb-true code 5 e)) (λ m. let m5 = eqb-false code 5 m in
    cases (decided (eqb code 6)) (λ e. rw (eqb-true code 6 e)) (λ m. let m6 = eqb-false code 6 m in
    cases (decided (eqb code 7)) (λ e. rw (eqb-true code 7 e)) (λ m. let m7 = eqb-false code 7 m in
    down-other (code-down code (λ l u. h l (omega arith))))))
  where
    down-other : code_of code ≡ down → names_one (code_of code) k a ≡ false
    down-other e = ap (λ c. names_one c k a) e

pub one-low : (code : ℕ) (k a : Kind) → names_one (code_of code) k a ≡ true → (1 ≤ code) × (code ≤ 4)
one-low code k a h = cases (decided (leb 1 code && leb code 4))
    (λ e. (leb-true 1 code (and_left _ _ e), leb-true code 4 (and_right (leb 1 code) _ e)))
    (λ e. clash _ h (one-other code k a (λ l u. clash _ (and-join _ _ (le-leb 1 code l) (le-leb code 4 u)) e)))

serial-block : (k : Kind) → is_kind serial k ≡ true → not (is_kind task k) ≡ true
unfolding is_kind kind_number
serial-block task h = absurd (false≢true h)
serial-block serial h = refl
serial-block and h = refl
serial-block or h = refl
serial-block xor h = refl
serial-block contingency h = refl
serial-block conditional h = refl
serial-block waiting h = refl

contingency-block : (k : Kind) → is_kind contingency k ≡ true → not (is_kind task k) ≡ true
unfolding is_kind kind_number
contingency-block task h = absurd (false≢true h)
contingency-block serial h = refl
contingency-block and h = refl
contingency-block or h = refl
contingency-block xor h = refl
contingency-block contingency h = refl
contingency-block conditional h = refl
contingency-block waiting h = refl

-- a guard that goes by one of a family names the family
pub one-family : (c : Code) (k a : Kind) → names_one c k a ≡ true → names_family c k a ≡ true
unfolding names_one names_family
one-family start k a h = h
one-family offer k a h = serial-block k h
one-family commit k a h = and-join (not (is_kind xor a)) _ (and_left _ (is_kind serial k) h) (serial-block k (and_right (not (is_kind xor a)) _ h))
one-family abort k a h = contingency-block k h
one-family answered-yes k a h = h
one-family answered-no k a h = h
one-family pick k a h = h
one-family down k a h = refl

-- the guard by the kinds and the family
guard-family : (p : List ℕ) (code : Code) (v : ℕ) → guard_by p code v ≡ guard_by_kinds code (kind p v) (above p v) (parent p v) v (family p (family_parent p code v) (left_out code v))
unfolding guard_by guard_by_kinds finishing aborting in_xor family_parent left_out
guard-family p start v = rw (family-children p (parent p v))
guard-family p offer v = rw (family-children p v)
guard-family p commit v = rw (family-children p v)
guard-family p abort v = rw (family-children p v)
guard-family p answered-yes v = refl
guard-family p answered-no v = refl
guard-family p pick v = refl
guard-family p down v = rw (family-others p v)

-- a guard that names none is the same whichever they are
start-alone : (k : Kind) (u : ℕ) (cs : List ℕ) (v : ℕ) → in_turn k ≡ false → start_by k u cs v ≡ start_by k u [] v
unfolding in_turn start_by
start-alone task u cs v h = refl
start-alone serial u cs v h = absurd (false≢true (sym h))
start-alone and u cs v h = refl
start-alone or u cs v h = refl
start-alone xor u cs v h = refl
start-alone contingency u cs v h = absurd (false≢true (sym h))
start-alone conditional u cs v h = absurd (false≢true (sym h))
start-alone waiting u cs v h = refl

task-only : (k : Kind) → not (is_kind task k) ≡ false → k ≡ task
task-only k h = same_kind task k (not-false _ h)

unnamed : (code : Code) (k above : Kind) (u v : ℕ) (cs : List ℕ) → names_family code k above ≡ false → guard_by_kinds code k above u v cs ≡ guard_by_kinds code k above u v []
unfolding names_family guard_by_kinds finish_by abort_by
unnamed start k a u v cs h = start-alone a u cs v h
unnamed offer k a u v cs h = rw (task-only k h)
unnamed commit k a u v cs h = cases (decided (is_kind xor a)) (λ e. rw e) (λ e. rw (task-only k (rw e at h)))
unnamed abort k a u v cs h = rw (task-only k h)
unnamed answered-yes k a u v cs h = refl
unnamed answered-no k a u v cs h = refl
unnamed pick k a u v cs h = refl
unnamed down k a u v cs h = absurd (false≢true (sym h))

-- the nodes that it names
module _ (p : List ℕ) (code : Code) (v : ℕ) where
  pub named-family : names_family code (kind p v) (above p v) ≡ true → named_nodes p code v ≡ family p (family_parent p code v) (left_out code v)
  unfolding named_nodes
  named-family h = rw h

  pub named_none : names_family code (kind p v) (above p v) ≡ false → named_nodes p code v ≡ []
  unfolding named_nodes
  named_none h = rw h

  guard-by : guard_by p code v ≡ guard_by_kinds code (kind p v) (above p v) (parent p v) v (named_nodes p code v)
  guard-by = cases (decided (names_family code (kind p v) (above p v)))
      (λ e. rw (named-family e) (guard-family p code v))
      (λ e. rw (named_none e) (guard-family p code v ∙ unnamed code (kind p v) (above p v) (parent p v) v (family p (family_parent p code v) (left_out code v)) e))

-- its shape gives the guard
pub guard-shape : (p : List ℕ) (code v : ℕ) → GivesGuard (guard_shape p (code_of code) v) (named_nodes p (code_of code) v) (guard p (event_of code v))
unfolding guard guard_shape
guard-shape p code v = rw (guard-by p (code_of code) v) (shape-gives (code_of code) (kind p v) (above p v) (parent p v) v (named_nodes p (code_of code) v) refl)

-- as the table gives it for the bytes of the kinds, and the neighbour where it counts
pub shape_is : (p : List ℕ) (code v : ℕ) {k a u w b : ℕ} {s : Shape} → k ≡ kind_byte p v → a ≡ above_byte p v → u ≡ parent p v → w ≡ v
    → (1 ≤ code → code ≤ 4 → b ≡ neighbour (code_of code) v (named_nodes p (code_of code) v))
    → s ≡ shape_of (code_of code) (kind_of k) (kind_of a) u w b → s ≡ guard_shape p (code_of code) v
unfolding guard_shape kind
shape_is p code v {k} {a} {u} {w} ek ea eu ew is h = h ∙ rw (ew, ek, ea, eu, ← above-byte p v) (shape_same code (kind_of (kind_byte p v)) (above p v) (parent p v) v is)

-- by its line of the table the shape of any other guard is the same whatever stands for the neighbour
turnless : (a : Kind) (u b : ℕ) → in_turn a ≡ false → later_shape a u b ≡ first_shape a u
unfolding in_turn later_shape first_shape
turnless task u b h = refl
turnless serial u b h = absurd (false≢true (sym h))
turnless and u b h = refl
turnless or u b h = refl
turnless xor u b h = refl
turnless contingency u b h = absurd (false≢true (sym h))
turnless conditional u b h = absurd (false≢true (sym h))
turnless waiting u b h = refl

finish-alone : (k : Kind) (v b d : ℕ) → is_kind serial k ≡ false → finish_shape k v b ≡ finish_shape k v d
unfolding finish_shape is_kind kind_number
finish-alone task v b d h = refl
finish-alone serial v b d h = absurd (false≢true (sym h))
finish-alone and v b d h = refl
finish-alone or v b d h = refl
finish-alone xor v b d h = refl
finish-alone contingency v b d h = refl
finish-alone conditional v b d h = refl
finish-alone waiting v b d h = refl

abort-alone : (k : Kind) (v b d : ℕ) → is_kind contingency k ≡ false → abort_shape k v b ≡ abort_shape k v d
unfolding abort_shape is_kind kind_number
abort-alone task v b d h = refl
abort-alone serial v b d h = refl
abort-alone and v b d h = refl
abort-alone or v b d h = refl
abort-alone xor v b d h = refl
abort-alone contingency v b d h = absurd (false≢true (sym h))
abort-alone conditional v b d h = refl
abort-alone waiting v b d h = refl

start-turnless : (a : Kind) (u b : ℕ) → in_turn a ≡ false → (t : Bool) → cond t (first_shape a u) (later_shape a u b) ≡ first_shape a u
start-turnless a u b h true = refl
start-turnless a u b h false = turnless a u b h

shape-alone : (c : Code) (k a : Kind) (u v b d : ℕ) → names_one c k a ≡ false → shape_of c k a u v b ≡ shape_of c k a u v d
unfolding names_one shape_of
shape-alone start k a u v b d h = start-turnless a u b h (eqb b v) ∙ sym (start-turnless a u d h (eqb d v))
shape-alone offer k a u v b d h = finish-alone k v b d h
shape-alone commit k a u v b d h = cases (decided (is_kind xor a)) (λ x. rw x) (λ x. rw x (finish-alone k v b d (rw x at h)))
shape-alone abort k a u v b d h = abort-alone k v b d h
shape-alone answered-yes k a u v b d h = refl
shape-alone answered-no k a u v b d h = refl
shape-alone pick k a u v b d h = refl
shape-alone down k a u v b d h = refl

-- so the neighbour counts only for those that go by it
pub shape-by-one : (p : List ℕ) (code v : ℕ) {k a u w b : ℕ} {s : Shape} → k ≡ kind_byte p v → a ≡ above_byte p v → u ≡ parent p v → w ≡ v
    → (names_one (code_of code) (kind p v) (above p v) ≡ true → b ≡ neighbour (code_of code) v (named_nodes p (code_of code) v))
    → s ≡ shape_of (code_of code) (kind_of k) (kind_of a) u w b → s ≡ guard_shape p (code_of code) v
unfolding guard_shape kind
shape-by-one p code v {k} {a} {u} {w} {b} ek ea eu ew is h = h ∙ rw (ew, ek, ea, eu, ← above-byte p v) (cases (decided (names_one (code_of code) (kind_of (kind_byte p v)) (above p v)))
    (λ o. ap (shape_of (code_of code) (kind_of (kind_byte p v)) (above p v) (parent p v) v) (is o))
    (λ o. shape-alone (code_of code) (kind_of (kind_byte p v)) (above p v) (parent p v) v b _ o))

-- by the bytes of the kinds
pub one-bytes : (p : List ℕ) (code : Code) (v : ℕ) {k a : ℕ} {b : Bool} → k ≡ kind_byte p v → a ≡ above_byte p v → names_one code (kind_of k) (kind_of a) ≡ b → names_one code (kind p v) (above p v) ≡ b
unfolding kind
one-bytes p code v ek ea h = rw (above-byte p v, ← ek, ← ea) h

pub names-bytes : (p : List ℕ) (code : Code) (v : ℕ) {k a : ℕ} {b : Bool} → k ≡ kind_byte p v → a ≡ above_byte p v → names_family code (kind_of k) (kind_of a) ≡ b → names_family code (kind p v) (above p v) ≡ b
unfolding kind
names-bytes p code v ek ea h = rw (above-byte p v, ← ek, ← ea) h

pub neighbour-none : (code : Code) (v : ℕ) → v ≡ neighbour code v []
unfolding neighbour before_in last_or
neighbour-none start v = refl
neighbour-none offer v = refl
neighbour-none commit v = refl
neighbour-none abort v = refl
neighbour-none answered-yes v = refl
neighbour-none answered-no v = refl
neighbour-none pick v = refl
neighbour-none down v = refl

pub named-few : (p : List ℕ) → Accepted p → (code : Code) (v : ℕ) → length (named_nodes p code v) ≤ 32
named-few p ok code v = cases (decided (names_family code (kind p v) (above p v)))
    (λ e. rw (named-family p code v e) (family-few p ok (family_parent p code v) (left_out code v)))
    (λ e. rw (named_none p code v e) (omega arith))

-- a node is not among its own children
module _ (p : List ℕ) (ok : Accepted p) where
  own-last : (v : ℕ) → before_in v (family p v 0) v ≡ last_or v (family p v 0)
  own-last v = rw (family-children p v) (before_last v (children p v) v (λ c i e. let b = child-between p ok v i in omega arith))

  neighbour-before : (code : Code) (v : ℕ) → let cs = family p (family_parent p code v) (left_out code v) in before_in v cs v ≡ neighbour code v cs
  unfolding family_parent left_out neighbour
  neighbour-before start v = refl
  neighbour-before offer v = own-last v
  neighbour-before commit v = own-last v
  neighbour-before abort v = own-last v
  neighbour-before answered-yes v = refl
  neighbour-before answered-no v = refl
  neighbour-before pick v = refl
  neighbour-before down v = refl

  pub neighbour-named : (code : Code) (v : ℕ) → before_in v (named_nodes p code v) v ≡ neighbour code v (named_nodes p code v)
  unfolding before_in
  neighbour-named code v = cases (decided (names_family code (kind p v) (above p v)))
      (λ e. rw (named-family p code v e) (neighbour-before code v))
      (λ e. rw (named_none p code v e) (neighbour-none code v))

-- a shape that says something of the family is that of a guard that names it
quiet : Shape → Bool
quiet s = eqb s.each 0 && eqb s.any 0

first-quiet : (k : Kind) (u : ℕ) → quiet (first_shape k u) ≡ true
unfolding quiet first_shape
first-quiet task u = refl
first-quiet serial u = refl
first-quiet and u = refl
first-quiet or u = refl
first-quiet xor u = refl
first-quiet contingency u = refl
first-quiet conditional u = refl
first-quiet waiting u = refl

later-quiet : (k : Kind) (u b : ℕ) → quiet (later_shape k u b) ≡ true
unfolding quiet later_shape
later-quiet task u b = refl
later-quiet serial u b = refl
later-quiet and u b = refl
later-quiet or u b = refl
later-quiet xor u b = refl
later-quiet contingency u b = refl
later-quiet conditional u b = refl
later-quiet waiting u b = refl

finish-quiet : (k : Kind) (v l : ℕ) → not (is_kind task k) ≡ false → quiet (finish_shape k v l) ≡ true
unfolding quiet finish_shape
finish-quiet k v l h = rw (task-only k h)

abort-quiet : (k : Kind) (v l : ℕ) → not (is_kind task k) ≡ false → quiet (abort_shape k v l) ≡ true
unfolding quiet abort_shape
abort-quiet k v l h = rw (task-only k h)

shape-quiet : (c : Code) (k above : Kind) (u v b : ℕ) → names_family c k above ≡ false → quiet (shape_of c k above u v b) ≡ true
unfolding quiet names_family shape_of
shape-quiet start k a u v b h = cases (decided (eqb b v)) (λ e. rw e (first-quiet a u)) (λ e. rw e (later-quiet a u b))
shape-quiet offer k a u v b h = finish-quiet k v b h
shape-quiet commit k a u v b h = cases (decided (is_kind xor a)) (λ e. rw e) (λ e. rw e (finish-quiet k v b (rw e at h)))
shape-quiet abort k a u v b h = abort-quiet k v b h
shape-quiet answered-yes k a u v b h = refl
shape-quiet answered-no k a u v b h = refl
shape-quiet pick k a u v b h = refl
shape-quiet down k a u v b h = absurd (false≢true (sym h))

whole-family : (c : Code) (k above : Kind) (u v b : ℕ) → ((shape_of c k above u v b).each ≡ 0 → ⊥) → left_out c v ≡ 0
unfolding left_out shape_of
whole-family start k a u v b h = refl
whole-family offer k a u v b h = refl
whole-family commit k a u v b h = refl
whole-family abort k a u v b h = refl
whole-family answered-yes k a u v b h = refl
whole-family answered-no k a u v b h = refl
whole-family pick k a u v b h = refl
whole-family down k a u v b h = absurd (h refl)

module _ (p : List ℕ) (c : Code) (v : ℕ) {s : Shape} (is : s ≡ guard_shape p c v) where
  pub shape-named : (eqb s.each 0 && eqb s.any 0) ≡ false → names_family c (kind p v) (above p v) ≡ true
  unfolding quiet guard_shape
  shape-named h = cases (decided (names_family c (kind p v) (above p v))) (λ e. e)
      (λ e. clash (quiet s) (rw is (shape-quiet c (kind p v) (above p v) (parent p v) v (neighbour c v (named_nodes p c v)) e)) h)

  -- and a guard that says something of each leaves none out
  pub each-whole : (s.each ≡ 0 → ⊥) → left_out c v ≡ 0
  unfolding guard_shape
  each-whole h = whole-family c (kind p v) (above p v) (parent p v) v (neighbour c v (named_nodes p c v)) (λ e. h (ap (λ t. t.each) is ∙ e))
