-- The guard table gives the bytes of every guard, and no node past those that it is asked about. Assumes nothing.
use mathlib.Core.Path.{◌≡◌, refl, sym, ◌∙◌}
use mathlib.Core.Bool.{true, false, cond, ◌&&◌}
use mathlib.Core.List.{List, [], ◌∷◌, ◌++◌, append-nil}
use mathlib.Core.Logic.{⊎_elim}
use Prim.Native.Nat.{ℕ, ◌≤◌, ◌<◌}
use native.Mathlib.Nat.{add-zero, eq-or-lt_of_le}
use native.Mathlib.Omega.{arith}
use borrow.Author.Tests.{eq-eqb, ne_eqb, eqb-true, eqb-false, leb-true, leb-false}
use lib.Dec.{eqb, leb}
use Rattle.lists.specs.Seq.{last_or}
use Rattle.lists.proofs.Logic.{cases, decided}
use Rattle.plan.specs.Plan.{is_kind}
use Rattle.plan.specs.declared.kinds.Kind.{Kind}
use Rattle.plan.specs.declared.kinds.Kind.TheVariants.{Task as task, Serial as serial, And as and, Or as or, Xor as xor, Contingency as contingency, Conditional as conditional, Waiting as waiting}
use Rattle.event.specs.Event.{Code, start, offer, commit, abort, answered-yes, answered-no, pick, down, code_number, code_of}
use Rattle.event.proofs.CodeLaws.{two, code-down}
use Rattle.guard.specs.Guard.{Guard, one, each, any_of, is_first, before_in, start_by, finish_by, abort_by}
use Rattle.guard.specs.Bytes.{enc_events, enc_clauses, encode}
use Rattle.guard.specs.Put.{pairs, clause, each_clause, first_bytes, any_part, more_of}
use Rattle.guard.specs.Family.{neighbour}
use Rattle.guard.specs.Shape.{no_clause, one_event, each_child, each_then_any, any_child, one_then_any, first_shape, later_shape, finish_shape, abort_shape, shape_of, shape_bytes}
use Rattle.guard.specs.declared.table.Shape.{Shape}
use Rattle.guard.proofs.Between.{in_between, not-between}
use Rattle.guard.proofs.EncodeLaws.{encode-each, encode-each-any}
use Rattle.guard.proofs.FamilyLaws.{first-before}

-- a shape over the nodes cs gives the bytes of the guard g
pub record GivesGuard (s : Shape) (cs : List ℕ) (g : Guard) : Type 0 where
  pub few : s.each ≤ 3
  pub none : s.code ≡ 0 → s.each ≡ 0
  pub bytes : shape_bytes s cs ≡ encode g

-- the guard by the kind of v, the kind of its parent u, and cs: for a start the children of u, for a turned down the siblings, else the children
unfoldable pub guard_by_kinds : Code → Kind → Kind → ℕ → ℕ → List ℕ → Guard
guard_by_kinds start k above u v cs = start_by above u cs v
guard_by_kinds offer k above u v cs = finish_by k v cs
guard_by_kinds commit k above u v cs = cond (is_kind xor above) (one pick v) (finish_by k v cs)
guard_by_kinds abort k above u v cs = abort_by k v cs
guard_by_kinds answered-yes k above u v cs = one start v
guard_by_kinds answered-no k above u v cs = one start v
guard_by_kinds pick k above u v cs = one offer v
guard_by_kinds down k above u v cs = one offer v ++ any_of pick cs

-- what each shape gives
module _ (cs : List ℕ) where
  none-gives : GivesGuard no_clause cs []
  unfolding shape_bytes first_bytes more_of any_part each_clause encode enc_clauses
  none-gives = record { few = omega arith; none = λ e. refl; bytes = refl }

  one-gives : (k : Code) (v : ℕ) → GivesGuard (one_event k v) cs (one k v)
  unfolding shape_bytes first_bytes more_of any_part clause pairs encode enc_clauses enc_events code_number
  one-gives start v = record { few = omega arith; none = λ e. refl; bytes = refl }
  one-gives offer v = record { few = omega arith; none = λ e. refl; bytes = refl }
  one-gives commit v = record { few = omega arith; none = λ e. refl; bytes = refl }
  one-gives abort v = record { few = omega arith; none = λ e. refl; bytes = refl }
  one-gives answered-yes v = record { few = omega arith; none = λ e. refl; bytes = refl }
  one-gives answered-no v = record { few = omega arith; none = λ e. refl; bytes = refl }
  one-gives pick v = record { few = omega arith; none = λ e. refl; bytes = refl }
  one-gives down v = record { few = omega arith; none = λ e. refl; bytes = refl }

  each-commit-gives : GivesGuard (each_child commit 1) cs (each (commit ∷ []) cs)
  unfolding shape_bytes first_bytes more_of any_part code_number
  each-commit-gives = record { few = omega arith; none = λ e. omega arith; bytes = rw (append-nil, add-zero) (sym (encode-each (commit ∷ []) cs)) }

  each-abort-gives : GivesGuard (each_child abort 1) cs (each (abort ∷ []) cs)
  unfolding shape_bytes first_bytes more_of any_part code_number
  each-abort-gives = record { few = omega arith; none = λ e. omega arith; bytes = rw (append-nil, add-zero) (sym (encode-each (abort ∷ []) cs)) }

  any-commit-gives : GivesGuard (any_child commit) cs (any_of commit cs)
  unfolding shape_bytes first_bytes more_of any_part each_clause code_number
  any-commit-gives = record { few = omega arith; none = λ e. refl; bytes = sym (encode-each-any [] [] commit cs) }

  any-abort-gives : GivesGuard (any_child abort) cs (any_of abort cs)
  unfolding shape_bytes first_bytes more_of any_part each_clause code_number
  any-abort-gives = record { few = omega arith; none = λ e. refl; bytes = sym (encode-each-any [] [] abort cs) }

  or-finish-gives : GivesGuard (each_then_any commit 2 commit) cs (each (commit ∷ abort ∷ []) cs ++ any_of commit cs)
  unfolding shape_bytes first_bytes more_of any_part code_number
  or-finish-gives = record { few = omega arith; none = λ e. omega arith; bytes = sym (encode-each-any (commit ∷ abort ∷ []) cs commit cs) }

  xor-finish-gives : GivesGuard (each_then_any commit 3 commit) cs (each (commit ∷ abort ∷ down ∷ []) cs ++ any_of commit cs)
  unfolding shape_bytes first_bytes more_of any_part code_number
  xor-finish-gives = record { few = omega arith; none = λ e. omega arith; bytes = sym (encode-each-any (commit ∷ abort ∷ down ∷ []) cs commit cs) }

  waiting-abort-gives : GivesGuard (each_then_any commit 2 abort) cs (each (commit ∷ abort ∷ []) cs ++ any_of abort cs)
  unfolding shape_bytes first_bytes more_of any_part code_number
  waiting-abort-gives = record { few = omega arith; none = λ e. omega arith; bytes = sym (encode-each-any (commit ∷ abort ∷ []) cs abort cs) }

  down-gives : (v : ℕ) → GivesGuard (one_then_any offer v pick) cs (one offer v ++ any_of pick cs)
  unfolding shape_bytes first_bytes more_of any_part each_clause clause pairs code_number
  down-gives v = record { few = omega arith; none = λ e. refl; bytes = sym (encode-each-any (offer ∷ []) (v ∷ []) pick cs) }

-- v is the first where the one before it is v itself
module _ (cs : List ℕ) (v : ℕ) {d : ℕ} (is : d ≡ before_in v cs v) where
  is-first : eqb d v ≡ true → is_first cs v ≡ true
  is-first e = first-before cs v ∙ eq-eqb (before_in v cs v) v (sym is ∙ eqb-true d v e)

  is_later_lem : eqb d v ≡ false → is_first cs v ≡ false
  is_later_lem h = first-before cs v ∙ ne_eqb (before_in v cs v) v (λ e. eqb-false d v h (is ∙ e))

-- the table's lines by kind
module _ (u : ℕ) (cs : List ℕ) (v : ℕ) where
  first_gives : (k : Kind) → is_first cs v ≡ true → GivesGuard (first_shape k u) cs (start_by k u cs v)
  unfolding first_shape start_by
  first_gives task e = none-gives cs
  first_gives serial e = rw e (one-gives cs start u)
  first_gives and e = one-gives cs start u
  first_gives or e = one-gives cs start u
  first_gives xor e = one-gives cs start u
  first_gives contingency e = rw e (one-gives cs start u)
  first_gives conditional e = rw e (one-gives cs answered-yes u)
  first_gives waiting e = one-gives cs start u

  later-gives : (k : Kind) {b : ℕ} → is_first cs v ≡ false → b ≡ before_in v cs v → GivesGuard (later_shape k u b) cs (start_by k u cs v)
  unfolding later_shape start_by
  later-gives task e is = none-gives cs
  later-gives serial e is = rw (e, is) (one-gives cs commit (before_in v cs v))
  later-gives and e is = one-gives cs start u
  later-gives or e is = one-gives cs start u
  later-gives xor e is = one-gives cs start u
  later-gives contingency e is = rw (e, is) (one-gives cs abort (before_in v cs v))
  later-gives conditional e is = rw e (one-gives cs answered-no u)
  later-gives waiting e is = one-gives cs start u

module _ (v : ℕ) (cs : List ℕ) {l : ℕ} (is : l ≡ last_or v cs) where
  finish-gives : (k : Kind) → GivesGuard (finish_shape k v l) cs (finish_by k v cs)
  unfolding finish_shape finish_by
  finish-gives task = one-gives cs start v
  finish-gives serial = rw is (one-gives cs commit (last_or v cs))
  finish-gives and = each-commit-gives cs
  finish-gives or = or-finish-gives cs
  finish-gives xor = xor-finish-gives cs
  finish-gives contingency = any-commit-gives cs
  finish-gives conditional = any-commit-gives cs
  finish-gives waiting = each-commit-gives cs

  abort-gives : (k : Kind) → GivesGuard (abort_shape k v l) cs (abort_by k v cs)
  unfolding abort_shape abort_by
  abort-gives task = one-gives cs start v
  abort-gives serial = any-abort-gives cs
  abort-gives and = any-abort-gives cs
  abort-gives or = each-abort-gives cs
  abort-gives xor = each-abort-gives cs
  abort-gives contingency = rw is (one-gives cs abort (last_or v cs))
  abort-gives conditional = any-abort-gives cs
  abort-gives waiting = waiting-abort-gives cs

-- and by code
pub shape-gives : (c : Code) (k above : Kind) (u v : ℕ) {b : ℕ} (cs : List ℕ) → b ≡ neighbour c v cs → GivesGuard (shape_of c k above u v b) cs (guard_by_kinds c k above u v cs)
unfolding neighbour shape_of guard_by_kinds
shape-gives start k above u v {b} cs is = cases (decided (eqb b v))
    (λ e. rw e (first_gives u cs v above (is-first cs v is e)))
    (λ e. rw e (later-gives u cs v above (is_later_lem cs v is e) is))
shape-gives offer k above u v cs is = finish-gives v cs is k
shape-gives commit k above u v cs is = cases (decided (is_kind xor above)) (λ e. rw e (one-gives cs pick v)) (λ e. rw e (finish-gives v cs is k))
shape-gives abort k above u v cs is = abort-gives v cs is k
shape-gives answered-yes k above u v cs is = one-gives cs start v
shape-gives answered-no k above u v cs is = one-gives cs start v
shape-gives pick k above u v cs is = one-gives cs offer v
shape-gives down k above u v cs is = down-gives cs v

-- the neighbour counts for a start, a finish and an abort only
pub shape_same : (code : ℕ) (k above : Kind) (u v : ℕ) {b d : ℕ} → (1 ≤ code → code ≤ 4 → b ≡ d) → shape_of (code_of code) k above u v b ≡ shape_of (code_of code) k above u v d
unfolding code_of shape_of
shape_same code k above u v h = cases (decided (leb 1 code && leb code 4))
    (λ e. let n = in_between 1 4 code e in rw (h n.0 n.1))
    (λ e. cases (decided (leb 5 code && leb code 7))
    (λ f. let n = in_between 5 7 code f in
    ⊎_elim (λ q. rw (← q)) (λ (l : 5 < code). ⊎_elim (λ q. rw q) (λ q. rw q) (two 6 code l n.1)) (eq-or-lt_of_le n.0))
    (λ f. rw (code-down code (λ a b. not-between 1 4 code e a (let g = not-between 5 7 code f in cases (decided (leb code 4)) (λ q. leb-true code 4 q) (λ q. absurd (g (leb-false code 4 q) b)))))))

-- a bound of the node
module _ (u v b m : ℕ) (below-u : u ≤ m) (below-v : v ≤ m) (below-b : b ≤ m) where
  first-node : (k : Kind) → (first_shape k u).node ≤ m
  unfolding first_shape
  first-node task = omega arith
  first-node serial = below-u
  first-node and = below-u
  first-node or = below-u
  first-node xor = below-u
  first-node contingency = below-u
  first-node conditional = below-u
  first-node waiting = below-u

  later-node : (k : Kind) → (later_shape k u b).node ≤ m
  unfolding later_shape
  later-node task = omega arith
  later-node serial = below-b
  later-node and = below-u
  later-node or = below-u
  later-node xor = below-u
  later-node contingency = below-b
  later-node conditional = below-u
  later-node waiting = below-u

  finish-node : (k : Kind) → (finish_shape k v b).node ≤ m
  unfolding finish_shape
  finish-node task = below-v
  finish-node serial = below-b
  finish-node and = omega arith
  finish-node or = omega arith
  finish-node xor = omega arith
  finish-node contingency = omega arith
  finish-node conditional = omega arith
  finish-node waiting = omega arith

  abort-node : (k : Kind) → (abort_shape k v b).node ≤ m
  unfolding abort_shape
  abort-node task = below-v
  abort-node serial = omega arith
  abort-node and = omega arith
  abort-node or = omega arith
  abort-node xor = omega arith
  abort-node contingency = below-b
  abort-node conditional = omega arith
  abort-node waiting = omega arith

  pub shape-node : (c : Code) (k above : Kind) → (shape_of c k above u v b).node ≤ m
  unfolding shape_of
  shape-node start k above = cases (decided (eqb b v)) (λ e. rw e (first-node above)) (λ e. rw e (later-node above))
  shape-node offer k above = finish-node k
  shape-node commit k above = cases (decided (is_kind xor above)) (λ e. rw e below-v) (λ e. rw e (finish-node k))
  shape-node abort k above = abort-node k
  shape-node answered-yes k above = below-v
  shape-node answered-no k above = below-v
  shape-node pick k above = below-v
  shape-node down k above = below-v

-- the neighbour by the code's number
module _ (code v : ℕ) (cs : List ℕ) where
  pub neighbour-start : code ≡ 1 → neighbour (code_of code) v cs ≡ before_in v cs v
  unfolding code_of neighbour
  neighbour-start e = rw e

  pub neighbour-finish : 2 ≤ code → code ≤ 3 → neighbour (code_of code) v cs ≡ last_or v cs
  unfolding code_of neighbour
  neighbour-finish a b = ⊎_elim (λ e. rw e) (λ e. rw e) (two 2 code a b)

  pub neighbour-abort : code ≡ 4 → neighbour (code_of code) v cs ≡ last_or v cs
  unfolding code_of neighbour
  neighbour-abort e = rw e
