-- Guards by shape and kind, against the central rule's tests: where they are the same word for word, what one that holds shows. Assumes nothing.
use mathlib.Core.Path.{◌≡◌, refl}
use mathlib.Core.Bool.{Bool, true, false, ◌&&◌, ◌||◌, cond, and-true, false≢true, or_assoc, or-false}
use mathlib.Core.List.{List, [], ◌∷◌}
use Prim.Native.Nat.{ℕ, ◌<◌}
use lib.Dec.{ltb}
use lib.ListN.{length}
use borrow.Author.Tests.{le-ltb, lt-ltb}
use native.Mathlib.Omega.{arith}
use Rattle.lists.specs.Seq.{all, any, last_or}
use Rattle.lists.specs.Member.{In, here, there, Rising, end, next}
use Rattle.lists.proofs.Logic.{no_bool, both}
use Rattle.lists.proofs.Members.{all-at, any_at, all_map, any-map, all_append}
use Rattle.lists.proofs.Points.{some_in, last-member}
use Rattle.plan.specs.declared.kinds.Kind.{Kind}
use Rattle.plan.specs.declared.kinds.Kind.TheVariants.{Task as task, Serial as serial, And as and, Or as or, Xor as xor, Contingency as contingency, Conditional as conditional, Waiting as waiting}
use Rattle.event.specs.Event.{Code, commit, abort, Event, at}
use Rattle.guard.specs.Guard.{finish_by, abort_by, holds}
use Rattle.central.specs.Central.{Answer, none, said-yes, said-no, Central, is_yes, is_no, of_branch, finishes_by, fails_by}
use Rattle.runs.proofs.Said.{said_by, said}

pub holds-one : (H : Event → Bool) (e : Event) → holds H ((e ∷ []) ∷ []) ≡ H e
unfolding holds all any
holds-one H e = simp (or-false, and-true)

pub holds-two : (H : Event → Bool) (e : Event) (es : List Event) → holds H ((e ∷ []) ∷ es ∷ []) ≡ (H e && any H es)
unfolding holds all any
holds-two H e es = simp (or-false, and-true)

pub holds-cond : (H : Event → Bool) (b : Bool) (e f : Event) → holds H (cond b ((e ∷ []) ∷ []) ((f ∷ []) ∷ [])) ≡ cond b (H e) (H f)
holds-cond H true e f = holds-one H e
holds-cond H false e f = holds-one H f

-- kinds whose guards are the central rule's tests, word for word
module _ (p : List ℕ) (s : Central) (v : ℕ) (cs : List ℕ) where
  pub finish-and : holds (said p s) (finish_by and v cs) ≡ finishes_by and s v cs
  unfolding holds finish_by finishes_by said said_by any all
  finish-and = simp (all_map, or-false)

  pub finish-or : holds (said p s) (finish_by or v cs) ≡ finishes_by or s v cs
  unfolding holds finish_by finishes_by said said_by any all
  finish-or = simp (all_append, all_map, any-map, or-false, and-true)

  pub finish-xor : holds (said p s) (finish_by xor v cs) ≡ finishes_by xor s v cs
  unfolding holds finish_by finishes_by said said_by any all
  finish-xor = simp (all_append, all_map, any-map, or-false, and-true, or_assoc)

  pub finish-waiting : holds (said p s) (finish_by waiting v cs) ≡ finishes_by waiting s v cs
  unfolding holds finish_by finishes_by said said_by any all
  finish-waiting = simp (all_map, or-false)

  pub finish-contingency : holds (said p s) (finish_by contingency v cs) ≡ finishes_by contingency s v cs
  unfolding holds finish_by finishes_by said said_by any all
  finish-contingency = simp (any-map, and-true)

  pub abort-serial : holds (said p s) (abort_by serial v cs) ≡ fails_by serial s v cs
  unfolding holds abort_by fails_by said said_by any all
  abort-serial = simp (any-map, and-true)

  pub abort-and : holds (said p s) (abort_by and v cs) ≡ fails_by and s v cs
  unfolding holds abort_by fails_by said said_by any all
  abort-and = simp (any-map, and-true)

  pub abort-waiting : holds (said p s) (abort_by waiting v cs) ≡ fails_by waiting s v cs
  unfolding holds abort_by fails_by said said_by any all
  abort-waiting = simp (all_append, all_map, any-map, or-false, and-true)

  pub abort-or : holds (said p s) (abort_by or v cs) ≡ fails_by or s v cs
  unfolding holds abort_by fails_by said said_by any all
  abort-or = simp (all_map, or-false)

  pub abort-xor : holds (said p s) (abort_by xor v cs) ≡ fails_by xor s v cs
  unfolding holds abort_by fails_by said said_by any all
  abort-xor = simp (all_map, or-false)

-- a block's guard that holds has a child that is committed, one of its abort a child that has failed
module _ (H : Event → Bool) (v : ℕ) (cs : List ℕ) (some : 0 < length cs) where
  abbrev Shown : Code → Type 0
  Shown k = (c : ℕ) × In c cs × (H (at k c) ≡ true)

  shown-all : (k : Code) → all (λ c. H (at k c)) cs ≡ true → Shown k
  shown-all k h = let i = some_in cs some in (i.0, i.1, all-at (λ c. H (at k c)) i.1 h)

  shown-any : (k : Code) → any (λ c. H (at k c)) cs ≡ true → Shown k
  shown-any k h = any_at (λ c. H (at k c)) cs h

  shown-last : (k : Code) → H (at k (last_or v cs)) ≡ true → Shown k
  shown-last k h = (last_or v cs, last-member v cs some, h)

  pub finish-shown : (k : Kind) → (k ≡ task → ⊥) → holds H (finish_by k v cs) ≡ true → Shown commit
  unfolding holds finish_by any all
  finish-shown task n h = absurd (n refl)
  finish-shown serial n h = shown-last commit (simp (or-false, and-true) at h)
  finish-shown and n h = shown-all commit (simp (all_map, or-false) at h)
  finish-shown or n h = shown-any commit (simp (all_append, all_map, any-map, or-false, both) at h).1.0
  finish-shown xor n h = shown-any commit (simp (all_append, all_map, any-map, or-false, both) at h).1.0
  finish-shown contingency n h = shown-any commit (simp (any-map, and-true) at h)
  finish-shown conditional n h = shown-any commit (simp (any-map, and-true) at h)
  finish-shown waiting n h = shown-all commit (simp (all_map, or-false) at h)

  pub abort-shown : (k : Kind) → (k ≡ task → ⊥) → holds H (abort_by k v cs) ≡ true → Shown abort
  unfolding holds abort_by any all
  abort-shown task n h = absurd (n refl)
  abort-shown serial n h = shown-any abort (simp (any-map, and-true) at h)
  abort-shown and n h = shown-any abort (simp (any-map, and-true) at h)
  abort-shown or n h = shown-all abort (simp (all_map, or-false) at h)
  abort-shown xor n h = shown-all abort (simp (all_map, or-false) at h)
  abort-shown contingency n h = shown-last abort (simp (or-false, and-true) at h)
  abort-shown conditional n h = shown-any abort (simp (any-map, and-true) at h)
  abort-shown waiting n h = shown-any abort (simp (all_append, all_map, any-map, or-false, both) at h).1.0

-- of two, each as f only where its own branch is answered
pub branch-only : (f : ℕ → Bool) (cs : List ℕ) (t : Answer) → Rising 0 cs → length cs ≡ 2 →
    ((c : ℕ) → In c cs → f c ≡ true → cond (any (λ d. ltb d c) cs) (is_no t) (is_yes t) ≡ true) → any f cs ≡ of_branch f t cs
unfolding any of_branch is_yes is_no
branch-only f [] t r n h = absurd (omega arith)
branch-only f (a ∷ []) t r n h = absurd (omega arith)
branch-only f (a ∷ b ∷ c ∷ cs) t r n h = absurd (omega arith)
branch-only f (a ∷ b ∷ []) t (next u (next w end)) n h = two t first second
  where
    first : f a ≡ true → is_yes t ≡ true
    first e = rw (le-ltb a a (omega arith), le-ltb b a (omega arith)) at (h a (here refl) e)

    second : f b ≡ true → is_no t ≡ true
    second e = rw (lt-ltb a b w) at (h b (there (here refl)) e)

    two : (t : Answer) → (f a ≡ true → is_yes t ≡ true) → (f b ≡ true → is_no t ≡ true) → (f a || (f b || false)) ≡ of_branch f t (a ∷ b ∷ [])
    two none h k = rw (no_bool (f a) (λ e. false≢true (h e)), no_bool (f b) (λ e. false≢true (k e)))
    two said-yes h k = rw (no_bool (f b) (λ e. false≢true (k e)), or-false)
    two said-no h k = rw (no_bool (f a) (λ e. false≢true (h e)), or-false)
