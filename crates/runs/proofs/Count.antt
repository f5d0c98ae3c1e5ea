-- No run is longer than five events a node (I6): every event adds to its node's weight, which is at most 5. Assumes nothing.
use mathlib.Core.Path.{◌≡◌, refl, ap}
use mathlib.Core.Bool.{Bool, true, false, not, ◌&&◌, ◌||◌, cond}
use mathlib.Core.List.{List, [], ◌∷◌}
use Prim.Native.Nat.{ℕ, ◌+◌, ◌*◌, ◌≤◌, ◌<◌}
use lib.Dec.{eqb, leb, ltb}
use lib.ListN.{length}
use borrow.Author.Tests.{eq-eqb, eqb-true, leb-true, ltb-true, not-true}
use native.Mathlib.Omega.{arith}
use Rattle.lists.specs.Seq.{all, any, up_from}
use Rattle.lists.specs.Member.{In, here, there}
use Rattle.lists.proofs.Logic.{no_bool, and-join, parts, clash}
use Rattle.lists.proofs.Members.{any-by, in-up}
use Rattle.lists.proofs.Table.{up-length}
use Rattle.plan.specs.Plan.{size, kind, parent, children, in_xor}
use Rattle.plan.proofs.PlanLaws.{child-in}
use Rattle.event.specs.Event.{Code, start, offer, commit, abort, answered-yes, answered-no, pick, down, code_number, same_code, Event, applies_by, applies}
use Rattle.event.proofs.CodeLaws.{codes}
use Rattle.central.specs.Mark.{Mark, idle, running, offered, committed, failed, turned_down, mark_number, is_mark}
use Rattle.central.specs.Central.{Answer, none, said-yes, said-no, Central, fresh, mark_after, answer_after, picked_after, after, is_yes, is_no, allowed_by, allowed, run_from, is_run, reaches}
use Rattle.central.proofs.MarkLaws.{marks}
use Rattle.runs.proofs.Finite.{answers, bools, tested, tested_at, implied}
use Rattle.runs.proofs.Said.{ready_by, ready_of}
use Rattle.runs.proofs.Family.{xor-child}

rank : Mark → ℕ
rank idle = 0
rank running = 1
rank offered = 2
rank committed = 3
rank failed = 3
rank turned_down = 3

answer_rank : Answer → ℕ
answer_rank none = 0
answer_rank said-yes = 1
answer_rank said-no = 1

-- how many events may lie behind what a node shows
weight_by : Mark → Answer → Bool → ℕ
weight_by m a k = rank m + answer_rank a + cond k 1 0

weight : Central → ℕ → ℕ
weight s v = weight_by (s.mark v) (s.answer v) (s.picked v)

abbrev more_test : Code → Bool → Mark → Answer → Bool → Bool
more_test c x m a k =
    not (ready_by c x m a && not (same_code c pick && k)) || ltb (weight_by m a k) (weight_by (mark_after c m) (answer_after c a) (picked_after c k))

more-tested : tested more_test ≡ true
unfolding all codes marks answers bools ready_by mark_after answer_after picked_after same_code code_number is_mark mark_number is_yes is_no weight_by rank answer_rank
more-tested = refl

most-tested : tested (λ c x m a k. leb (weight_by m a k) 5) ≡ true
unfolding all codes marks answers bools weight_by rank answer_rank
most-tested = refl

weight-most : (s : Central) (v : ℕ) → weight s v ≤ 5
unfolding weight
weight-most s v =
    leb-true (weight_by (s.mark v) (s.answer v) (s.picked v)) 5
    (tested_at (λ c x m a k. leb (weight_by m a k) 5) most-tested start true (s.mark v) (s.answer v) (s.picked v))

-- a pick is never of a picked one
pick_first : (p : List ℕ) (s : Central) (e : Event) → allowed p s e ≡ true → not (same_code e.code pick && s.picked e.node) ≡ true
unfolding allowed allowed_by applies applies_by same_code code_number
pick_first p s e h = go e.code e.node (ltb-true e.node (size p) (search parts)) (search parts) (search parts)
  where
    go : (c : Code) (v : ℕ) → v < size p → applies_by c (kind p v) (in_xor p v) ≡ true → allowed_by p s c v ≡ true → not (same_code c pick && s.picked v) ≡ true
    go start v l a h = refl
    go offer v l a h = refl
    go commit v l a h = refl
    go abort v l a h = refl
    go answered-yes v l a h = refl
    go answered-no v l a h = refl
    go pick v l a h =
        ap not (no_bool (s.picked v) (λ k.
        clash _ (any-by s.picked (child-in p (parent p v) (xor-child p v a l)) k) (not-true (any s.picked (children p (parent p v))) (search parts))))
    go down v l a h = refl

module _ (p : List ℕ) (s : Central) (e : Event) (ok : allowed p s e ≡ true) where
  weight-here : weight_by (s.mark e.node) (s.answer e.node) (s.picked e.node)
      < weight_by (mark_after e.code (s.mark e.node)) (answer_after e.code (s.answer e.node)) (picked_after e.code (s.picked e.node))
  weight-here =
      ltb-true _ _ (implied _ _ (tested_at more_test more-tested e.code (in_xor p e.node) (s.mark e.node) (s.answer e.node) (s.picked e.node))
      (and-join _ _ (ready_of p s e ok) (pick_first p s e ok)))

  weight-at : weight s e.node < weight (after s e) e.node
  unfolding weight after
  weight-at = rw (eq-eqb e.node e.node refl) weight-here

  weight-other : (w : ℕ) → weight s w ≤ weight (after s e) w
  unfolding weight after
  weight-other w = go (eqb e.node w) refl
    where
      go : (b : Bool) → eqb e.node w ≡ b →
          weight_by (s.mark w) (s.answer w) (s.picked w)
          ≤ weight_by (cond b (mark_after e.code (s.mark e.node)) (s.mark w)) (cond b (answer_after e.code (s.answer e.node)) (s.answer w))
          (cond b (picked_after e.code (s.picked e.node)) (s.picked w))
      go true q = let l = weight-here in rw (← (eqb-true e.node w q)) (omega arith)
      go false q = omega arith

total : (ℕ → ℕ) → List ℕ → ℕ
total f [] = 0
total f (x ∷ xs) = f x + total f xs

total-most : (f : ℕ → ℕ) → ((v : ℕ) → f v ≤ 5) → (xs : List ℕ) → total f xs ≤ 5 * length xs
unfolding total
total-most f h [] = omega arith
total-most f h (x ∷ xs) = let a = h x in let b = total-most f h xs in omega arith

total-le : (f g : ℕ → ℕ) → ((v : ℕ) → f v ≤ g v) → (xs : List ℕ) → total f xs ≤ total g xs
unfolding total
total-le f g h [] = omega arith
total-le f g h (x ∷ xs) = let a = h x in let b = total-le f g h xs in omega arith

total-lt : (f g : ℕ → ℕ) → ((v : ℕ) → f v ≤ g v) → {v : ℕ} {xs : List ℕ} → In v xs → f v < g v → total f xs < total g xs
unfolding total
total-lt f g h {v} (here {y = y} {xs = xs} q) l = let a : f y < g y = rw q at l in let b = total-le f g h xs in omega arith
total-lt f g h (there {y = y} {xs = xs} i) l = let a = h y in let b = total-lt f g h i l in omega arith

pub allowed-node : (p : List ℕ) (s : Central) (e : Event) → allowed p s e ≡ true → e.node < 0 + size p
unfolding allowed applies
allowed-node p s e h = let l = ltb-true e.node (size p) (search parts) in omega arith

count-from : (p : List ℕ) (s : Central) (es : List Event) → run_from p s es ≡ true →
    total (weight s) (up_from 0 (size p)) + length es ≤ total (weight (reaches s es)) (up_from 0 (size p))
unfolding run_from reaches
count-from p s [] h = omega arith
count-from p s (e ∷ es) h =
    let a : allowed p s e ≡ true = search parts in
    let n = total-lt (weight s) (weight (after s e)) (weight-other p s e a) (in-up 0 (size p) e.node (omega arith) (allowed-node p s e a)) (weight-at p s e a) in
    let r = count-from p (after s e) es (search parts) in
    omega arith

pub count : (p : List ℕ) (es : List Event) → is_run p es ≡ true → length es ≤ 5 * size p
unfolding is_run
count p es h =
    let a = count-from p fresh es h in
    let b = total-most (weight (reaches fresh es)) (weight-most (reaches fresh es)) (up_from 0 (size p)) in
    let c = up-length 0 (size p) in
    omega arith
