-- Fronts with which no plan begins: their nodes need too many children, or a parent is a task. Assumes nothing.
use mathlib.Core.Path.{◌≡◌, refl, sym, ◌∙◌, ap}
use mathlib.Core.Bool.{Bool, true, false, cond, not}
use mathlib.Core.List.{List, [], ◌∷◌}
use Prim.Native.Nat.{ℕ, zero, suc, ◌+◌, ◌-◌, ◌*◌, ◌/◌, ◌≤◌, ◌<◌}
use native.Mathlib.Omega.{arith}
use lib.Dec.{eqb, ltb}
use lib.ListN.{length, get_or, length-append}
use lib.Seq.{ext_get_or}
use borrow.Author.Tests.{eqb-true, eqb-false, ltb-true, ltb-false, lt-ltb, le-ltb}
use Rattle.lists.specs.Seq.{sum_below, keep, up_from}
use Rattle.lists.proofs.Logic.{cases, decided, clash}
use Rattle.plan.specs.Plan.{kind_of, size, kind_byte, kind, parent, children_below, children}
use Rattle.plan.specs.Check.{under_block, Accepted}
use Rattle.plan.proofs.PlanLaws.{children-suc}
use Rattle.plan.proofs.AcceptedLaws.{parent-block}
use Rattle.plan.proofs.KindLaws.{kind-task, block-kind}
use Rattle.next_plan.specs.Candidates.{Candidate}
use Rattle.next_plan.specs.Search.{children_needed, needed_below, Dead}
use Rattle.next_plan.proofs.CandidateLaws.{candidate-below}

sum-le : (f g : ℕ → ℕ) (n : ℕ) → ((v : ℕ) → v < n → f v ≤ g v) → sum_below f n ≤ sum_below g n
unfolding sum_below
sum-le f g zero h = omega arith
sum-le f g (suc n) h = let a = sum-le f g n (λ v l. h v (omega arith)) in let b = h n (omega arith) in omega arith

sum_same : (f g : ℕ → ℕ) (n : ℕ) → ((v : ℕ) → v < n → f v ≡ g v) → sum_below f n ≡ sum_below g n
unfolding sum_below
sum_same f g zero h = refl
sum_same f g (suc n) h = rw (sum_same f g n (λ v l. h v (omega arith)), h n (omega arith)) refl

sum-up : (f : ℕ → ℕ) (d n : ℕ) → sum_below f n ≤ sum_below f (d + n)
unfolding sum_below
sum-up f zero n = rw (let z : zero + n ≡ n = omega arith in z) (omega arith)
sum-up f (suc d) n = rw (let z : suc d + n ≡ suc (d + n) = omega arith in z) (let a = sum-up f d n in omega arith)

-- one more at one number, or none
sum_one : (f g : ℕ → ℕ) (a : ℕ) → ((u : ℕ) → g u ≤ f u + cond (eqb a u) 1 0) → (n : ℕ) → sum_below g n ≤ sum_below f n + cond (ltb a n) 1 0
unfolding sum_below
sum_one f g a h zero = omega arith
sum_one f g a h (suc n) = let i = sum_one f g a h n in let k = h n in cases (decided (eqb a n))
    (λ z. let e = eqb-true a n z in
    let low : sum_below g n ≤ sum_below f n + 0 = rw (le-ltb a n (omega arith)) at i in
    let up : g n ≤ f n + 1 = rw z at k in
    rw (lt-ltb a (suc n) (omega arith)) (omega arith))
    (λ z. let ne = eqb-false a n z in
    let up : g n ≤ f n + 0 = rw z at k in
    cases (decided (ltb a n))
    (λ y. let l = ltb-true a n y in let low : sum_below g n ≤ sum_below f n + 1 = rw y at i in rw (lt-ltb a (suc n) (omega arith)) (omega arith))
    (λ y. let l = ltb-false a n y in let low : sum_below g n ≤ sum_below f n + 0 = rw y at i in rw (le-ltb a (suc n) (omega arith)) (omega arith)))

sum-none : (n : ℕ) → sum_below (λ u. 0) n ≡ 0
unfolding sum_below
sum-none zero = refl
sum-none (suc n) = let e = sum-none n in omega arith

-- of the first nodes each but the root is one child
children-sum : (r : List ℕ) (n m : ℕ) → sum_below (λ u. length (children_below r (suc m) u)) n ≤ m
unfolding children_below keep up_from
children-sum r n zero = let e = sum-none n in omega arith
children-sum r n (suc m) =
    let less = children-sum r n m in
    let one = sum_one (λ u. length (children_below r (suc m) u)) (λ u. length (children_below r (suc (suc m)) u)) (parent r (suc m)) (λ u. grown u) n in
    omega (arith, at_most (ltb (parent r (suc m)) n))
  where
    at_most : (b : Bool) → cond b 1 0 ≤ 1
    at_most true = omega arith
    at_most false = omega arith

    long : (b : Bool) → length (cond b (suc m ∷ []) []) ≡ cond b 1 0
    long true = refl
    long false = refl

    grown : (u : ℕ) → length (children_below r (suc (suc m)) u) ≤ length (children_below r (suc m) u) + cond (eqb (parent r (suc m)) u) 1 0
    grown u =
        let e : children_below r (suc (suc m)) u ≡ children_below r (suc m + 1) u = ap (λ k. children_below r k u) (let z : suc (suc m) ≡ suc m + 1 = omega arith in z) in
        omega (arith, ap length (e ∙ children-suc r (suc m) u (omega arith)), length-append (children_below r (suc m) u) (cond (eqb (parent r (suc m)) u) (suc m ∷ []) []), long (eqb (parent r (suc m)) u))

-- A5: an accepted plan's node has as many as its kind needs
module _ (r : List ℕ) (ok : Accepted r) where
  has-needed : (v : ℕ) → v < size r → children_needed (kind_byte r v) ≤ length (children r v)
  unfolding children_needed kind kind_of
  has-needed v l = cases (decided (eqb (kind_byte r v) 1)) (λ z. rw z (omega arith))
      (λ z. let other = eqb-false (kind_byte r v) 1 z in
      let low = ok.low v l in
      cases (decided (eqb (kind_byte r v) 7))
      (λ y. rw (z, y) (let two = ok.two v l (rw (eqb-true (kind_byte r v) 7 y) refl) in omega arith))
      (λ y. rw (z, y) (ok.blocks v l (block-kind r v (omega arith) (ok.high v l)))))

  needed-few : (v : ℕ) → v < size r → needed_below r (suc v) < size r
  unfolding needed_below children
  needed-few v l =
      let some : suc (size r - 1) ≡ size r = omega arith in
      let e : (size r - suc v) + suc v ≡ size r = omega arith in
      let up : sum_below (λ v. children_needed (kind_byte r v)) (suc v) ≤ sum_below (λ v. children_needed (kind_byte r v)) (size r) = rw e at (sum-up (λ v. children_needed (kind_byte r v)) (size r - suc v) (suc v)) in
      let all = sum-le (λ v. children_needed (kind_byte r v)) (λ u. length (children_below r (size r) u)) (size r) (λ v l. has-needed v l) in
      let most : sum_below (λ u. length (children_below r (size r) u)) (size r) ≤ size r - 1 = rw some at (children-sum r (size r) (size r - 1)) in
      omega arith

-- counted node by node
pub needed-none : (q : List ℕ) → needed_below q 0 ≡ 0
unfolding needed_below sum_below
needed-none q = refl

pub needed-turn : (q : List ℕ) (v n k : ℕ) → n ≡ needed_below q v → k ≡ children_needed (kind_byte q v) → n + k ≡ needed_below q (v + 1)
unfolding needed_below sum_below
needed-turn q v n k e f = rw (let z : v + 1 ≡ suc v = omega arith in z, e, f) refl

needed-two : (k : ℕ) → children_needed k ≤ 2
unfolding children_needed
needed-two k = go (eqb k 1) (eqb k 7)
  where
    go : (a b : Bool) → cond a 0 (cond b 2 1) ≤ 2
    go true b = omega arith
    go false true = omega arith
    go false false = omega arith

pub needed-most : (q : List ℕ) (v : ℕ) → needed_below q v ≤ 2 * v
unfolding needed_below sum_below
needed-most q zero = omega arith
needed-most q (suc v) = let a = needed-most q v in let b = needed-two (kind_byte q v) in omega arith

-- q and r have the same first bytes
module _ (q r : List ℕ) (k : ℕ) (same : (i : ℕ) → i < k → get_or q i 0 ≡ get_or r i 0) where
  kinds-same : (v : ℕ) → 2 * v < k → kind_byte q v ≡ kind_byte r v
  unfolding kind_byte
  kinds-same v l = same (2 * v) l

  parents-same : (v : ℕ) → 2 * v + 1 < k → parent q v ≡ parent r v
  unfolding parent
  parents-same v l = same (2 * v + 1) l

  needed-same : (v : ℕ) → 2 * v < k → needed_below q (suc v) ≡ needed_below r (suc v)
  unfolding needed_below
  needed-same v l = sum_same (λ v. children_needed (kind_byte q v)) (λ v. children_needed (kind_byte r v)) (suc v) (λ u m. ap children_needed (kinds-same u (omega arith)))

size_same : (q r : List ℕ) → length r ≡ length q → size r ≡ size q
unfolding size
size_same q r e = ap (λ n. n / 2) e

-- A5: up to v the nodes need more children than there can be
pub dead-needed : (q : List ℕ) (v : ℕ) → v < size q → size q ≤ needed_below q (v + 1) → Dead q (2 * v + 1)
dead-needed q v l many r ok long same =
    let s = size_same q r long in
    let here : needed_below q (v + 1) ≡ needed_below q (suc v) = ap (needed_below q) (let z : v + 1 ≡ suc v = omega arith in z) in
    let few = needed-few r ok v (omega arith) in
    omega (arith, needed-same q r (2 * v + 1) same v (omega arith))

-- H4: v's parent is a task
pub dead-parent : (q : List ℕ) → Candidate q → (v : ℕ) → v < size q → under_block q v ≡ false → Dead q (2 * v + 2)
unfolding under_block
dead-parent q c v l e r ok long same = cases (decided (eqb v 0)) (λ z. clash true refl (rw z at e))
    (λ z. let ne = eqb-false v 0 z in
    let s = size_same q r long in
    let up = parents-same q r (2 * v + 2) same v (omega arith) in
    let low = candidate-below q c v (omega arith) l in
    let task-there : kind_byte q (parent q v) ≡ 1 = eqb-true (kind_byte q (parent q v)) 1 (not-false _ (rw z at e)) in
    parent-block r ok v (omega arith) (omega arith) (kind-task r (parent r v) (ap (kind_byte r) (sym up) ∙ sym (kinds-same q r (2 * v + 2) same (parent q v) (omega arith)) ∙ task-there)))
  where
    not-false : (b : Bool) → not b ≡ false → b ≡ true
    not-false true h = refl
    not-false false h = sym h

-- a refused candidate itself
pub dead-all : (q : List ℕ) → (Accepted q → ⊥) → Dead q (length q)
dead-all q refused r ok long same = refused (rw (ext_get_or 0 q r (sym long) same) ok)
