-- Marks by their tests, and how a node that has ended comes out in the pass. Assumes nothing.
use mathlib.Core.Path.{◌≡◌, refl, sym, ◌∙◌, ap}
use mathlib.Core.Bool.{Bool, true, false, not, ◌&&◌, ◌||◌, cond, and-false, or-true}
use mathlib.Core.Logic.{◌⊎◌, inl, inr}
use Prim.Native.Nat.{ℕ}
use borrow.Author.Tests.{eqb-true, not-false}
use Rattle.lists.specs.Seq.{all}
use Rattle.lists.proofs.Logic.{cases, either, clash}
use Rattle.central.specs.Mark.{Mark, idle, running, offered, committed, failed, turned_down, mark_number, is_mark, mark_of}
use Rattle.central.specs.Central.{Central, marked}
use Rattle.pass.specs.Pass.{Outcome, works, breaks, number_of}
use Rattle.runs.specs.Claims.{ended}
use Rattle.central.proofs.MarkLaws.{mark-back, marks}
use Rattle.runs.proofs.Finite.{mark-implies}

pub mark-is : (j m : Mark) → is_mark j m ≡ true → m ≡ j
unfolding is_mark
mark-is j m h = sym (mark-back m) ∙ ap mark_of (sym (eqb-true (mark_number j) (mark_number m) h)) ∙ mark-back j

pub idle-number : (m : Mark) → not (is_mark idle m) ≡ false → mark_number m ≡ 0
unfolding mark_number
idle-number m h = rw (mark-is idle m (not-false _ h))

-- the node has done its part: it is offered, at least
unfoldable pub is_worked : Mark → Bool
is_worked m = is_mark offered m || is_mark turned_down m || is_mark committed m

pub commit-worked : (m : Mark) → is_mark committed m ≡ true → is_worked m ≡ true
unfolding is_worked is_mark mark_number
commit-worked m h = rw (mark-is committed m h)

pub commit-not-failed : (m : Mark) → is_mark committed m ≡ true → is_mark failed m ≡ false
unfolding is_mark mark_number
commit-not-failed m h = rw (mark-is committed m h)

pub failed-not-worked : (m : Mark) → is_mark failed m ≡ true → is_worked m ≡ false
unfolding is_worked is_mark mark_number
failed-not-worked m h = rw (mark-is failed m h)

pub worked-started : (m : Mark) → is_worked m ≡ true → not (is_mark idle m) ≡ true
unfolding is_worked is_mark mark_number all marks
worked-started = mark-implies is_worked (λ m. not (is_mark idle m)) refl

-- x: the node is a child of an xor
pub worked-said : (x : Bool) (m : Mark) → is_worked m ≡ ((is_mark offered m || is_mark turned_down m || (x && is_mark committed m)) || is_mark committed m)
unfolding is_worked is_mark mark_number
worked-said x idle = rw and-false
worked-said x running = rw and-false
worked-said x offered = refl
worked-said x committed = sym (or-true (x && true))
worked-said x failed = rw and-false
worked-said x turned_down = refl

-- a node that has ended and not failed
pub ended-well : (s : Central) (v : ℕ) → ended s v ≡ true → marked s failed v ≡ false → (s.mark v ≡ committed) ⊎ (s.mark v ≡ turned_down)
unfolding ended
ended-well s v h n = cases ((either (marked s committed v || marked s failed v) (marked s turned_down v)).0 h)
    (λ e. cases ((either (marked s committed v) (marked s failed v)).0 e) (λ c. inl (mark-is committed (s.mark v) c)) (λ f. clash _ f n))
    (λ d. inr (mark-is turned_down (s.mark v) d))

-- the outcome of a node by its mark at the end
unfoldable pub outcome_of : Mark → Outcome
outcome_of m = cond (is_mark failed m) breaks works

pub outcome-sound : (m : Mark) → number_of (outcome_of m) ≡ 0
unfolding number_of outcome_of
outcome-sound m = go (is_mark failed m)
  where
    go : (b : Bool) → number_of (cond b breaks works) ≡ 0
    go true = refl
    go false = refl
