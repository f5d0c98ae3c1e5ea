-- A node's mark against the bars and guards of its events, in tests alone. Assumes nothing.
use mathlib.Core.Path.{◌≡◌, refl}
use mathlib.Core.Bool.{Bool, true, false, not, ◌&&◌, ◌||◌, beq, and-false, and-true, false≢true}
use borrow.Author.Tests.{not-true}
use Rattle.lists.specs.Seq.{all}
use Rattle.lists.proofs.Logic.{no_bool}
use Rattle.lists.proofs.Members.{all-at}
use Rattle.event.proofs.BitLaws.{beq-true}
use Rattle.central.specs.Mark.{Mark, idle, running, offered, committed, failed, turned_down, mark_number, is_mark}
use Rattle.central.proofs.MarkLaws.{marks, in-marks}

-- to offer, to commit outside an xor, and to abort: b says that the event is barred, g that its guard holds, f that the central rule's test does
pub end_by_lem : (b g f : Bool) (m : Mark) → (not (is_mark idle m) ≡ true → b ≡ not (is_mark running m)) → (g ≡ true → not (is_mark idle m) ≡ true) →
    (not (is_mark idle m) ≡ true → g ≡ f) → (not b && g) ≡ (is_mark running m && f)
unfolding is_mark mark_number
end_by_lem b g f idle h k l = rw (no_bool g (λ e. false≢true (k e))) (and-false (not b))
end_by_lem b g f running h k l = rw (h refl, l refl)
end_by_lem b g f offered h k l = rw (h refl)
end_by_lem b g f committed h k l = rw (h refl)
end_by_lem b g f failed h k l = rw (h refl)
end_by_lem b g f turned_down h k l = rw (h refl)

-- the bars of a started node
bar_test : (Mark → Bool) → Mark → Bool
bar_test b m = is_mark idle m || beq (b m) (not (is_mark running m))

bar-at : (b : Mark → Bool) → all (bar_test b) marks ≡ true → (m : Mark) → not (is_mark idle m) ≡ true → b m ≡ not (is_mark running m)
unfolding bar_test
bar-at b h m st = beq-true _ _ (rw (not-true (is_mark idle m) st) at (all-at (bar_test b) (in-marks m) h))

pub offer-bar : (m : Mark) → not (is_mark idle m) ≡ true →
    ((is_mark offered m || is_mark turned_down m || is_mark committed m) || (is_mark failed m || false)) ≡ not (is_mark running m)
unfolding bar_test is_mark mark_number all marks
offer-bar = bar-at (λ m. (is_mark offered m || is_mark turned_down m || is_mark committed m) || (is_mark failed m || false)) refl

pub commit-bar : (m : Mark) → ((is_mark offered m || is_mark turned_down m) ≡ true → ⊥) → not (is_mark idle m) ≡ true →
    (is_mark committed m || (is_mark failed m || false)) ≡ not (is_mark running m)
unfolding is_mark mark_number
commit-bar idle n h = absurd (false≢true h)
commit-bar running n h = refl
commit-bar offered n h = absurd (n refl)
commit-bar committed n h = refl
commit-bar failed n h = refl
commit-bar turned_down n h = absurd (n refl)

-- x: the node is a child of an xor
pub abort-bar : (x : Bool) (m : Mark) → not (is_mark idle m) ≡ true →
    (is_mark failed m || (is_mark committed m || ((is_mark offered m || is_mark turned_down m || (x && is_mark committed m)) || false))) ≡ not (is_mark running m)
unfolding bar_test is_mark mark_number all marks
abort-bar true = bar-at (λ m. is_mark failed m || (is_mark committed m || ((is_mark offered m || is_mark turned_down m || (true && is_mark committed m)) || false))) refl
abort-bar false = bar-at (λ m. is_mark failed m || (is_mark committed m || ((is_mark offered m || is_mark turned_down m || (false && is_mark committed m)) || false))) refl

-- an xor's child commits; k: it is picked
pub picked-by : (k : Bool) (m : Mark) → (k ≡ true → (is_mark offered m || is_mark committed m) ≡ true) →
    (not (is_mark committed m || (is_mark failed m || false)) && k) ≡ (is_mark offered m && k)
unfolding is_mark mark_number
picked-by k idle h = no_bool k (λ e. false≢true (h e))
picked-by k running h = no_bool k (λ e. false≢true (h e))
picked-by k offered h = refl
picked-by k committed h = refl
picked-by k failed h = refl
picked-by k turned_down h = no_bool k (λ e. false≢true (h e))

-- y: a child of the parent is picked
pub pick-by : (y : Bool) (m : Mark) → ((is_mark committed m || is_mark turned_down m) ≡ true → y ≡ true) →
    (not y && (is_mark offered m || is_mark turned_down m || is_mark committed m)) ≡ (is_mark offered m && not y)
unfolding is_mark mark_number
pick-by y idle h = and-false (not y)
pick-by y running h = and-false (not y)
pick-by y offered h = and-true (not y)
pick-by y committed h = rw (h refl)
pick-by y failed h = and-false (not y)
pick-by y turned_down h = rw (h refl)

-- y: a sibling is picked
pub down_by : (y : Bool) (m : Mark) → (is_mark committed m ≡ true → y ≡ false) →
    (not (is_mark turned_down m || false) && ((is_mark offered m || is_mark turned_down m || is_mark committed m) && y)) ≡ (is_mark offered m && y)
unfolding is_mark mark_number
down_by y idle h = refl
down_by y running h = refl
down_by y offered h = refl
down_by y committed h = h refl
down_by y failed h = refl
down_by y turned_down h = refl

-- y, n: yes, no is said; x: the node is started
pub answer-by : (y n x : Bool) → (not (y || (n || false)) && x) ≡ (x && not y && not n)
answer-by true n true = refl
answer-by true n false = refl
answer-by false true true = refl
answer-by false true false = refl
answer-by false false true = refl
answer-by false false false = refl
