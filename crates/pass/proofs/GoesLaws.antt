-- Whether a block goes on behind a child, kind by kind: while it is not done its next child is reached, and then none is. Assumes nothing.
use mathlib.Core.Path.{◌≡◌, refl, sym, ◌∙◌}
use mathlib.Core.Bool.{Bool, true, false, ◌&&◌, and-false, true≢false, false≢true}
use Prim.Native.Nat.{ℕ, suc, ◌≤◌, ◌<◌}
use native.Mathlib.Omega.{arith}
use lib.Dec.{eqb}
use borrow.Author.Tests.{eqb-true, ne_eqb}
use Rattle.lists.proofs.Logic.{cases, decided, and_left, and-join}
use Rattle.plan.specs.Plan.{kind_number, is_kind}
use Rattle.plan.specs.declared.kinds.Kind.{Kind}
use Rattle.plan.specs.declared.kinds.Kind.TheVariants.{Task as task, Serial as serial, And as and, Or as or, Xor as xor, Contingency as contingency, Conditional as conditional, Waiting as waiting}
use Rattle.pass.specs.Pass.{works, breaks, Tally, goes_by, goes, one_or_two, bad_answer, bad_pick, closes, note, nothing, ending, end_of}
use Rattle.pass.specs.Values.{outcome_of, says_no, done_by}
use Rattle.pass.proofs.StateLaws.{worked-or-broke, end-fault}

-- the tally behind n children, those after t's not reached
unfoldable pub late : ℕ → Tally → Tally
late n t = record { places = n; worked = t.worked; broke = t.broke; chosen = t.chosen; wrong = t.wrong }

-- no child behind is reached
abbrev pub Over : Kind → ℕ → Tally → Type 0
Over k x t = (n : ℕ) → t.places ≤ n → goes k x (late n t) ≡ false

pub end-late : (k : Kind) (x n : ℕ) (t : Tally) → end_of k x (late n t) ≡ end_of k x t
unfolding end_of bad_pick closes late
end-late task x n t = refl
end-late serial x n t = refl
end-late and x n t = refl
end-late or x n t = refl
end-late xor x n t = refl
end-late contingency x n t = refl
end-late conditional x n t = refl
end-late waiting x n t = refl

pub fault-ends : (k : Kind) (x : ℕ) (t : Tally) (o : ℕ) → 4 < o → end_of k x (note x t (outcome_of o)) ≡ outcome_of o
unfolding end_of ending note
fault-ends k x t o l = rw (end-fault o l, ne_eqb o 0 (λ e. omega arith))

pub over-fault : (k : Kind) (x : ℕ) (t : Tally) (o : ℕ) → 4 < o → Over k x (note x t (outcome_of o))
unfolding goes late note
over-fault k x t o l n g = rw (end-fault o l, ne_eqb o 0 (λ e. omega arith))

never : {A : Type 0} (a : Bool) → (a && false) ≡ true → A
never a e = absurd (false≢true (sym (and-false a) ∙ e))

module _ (x : ℕ) where
  -- a right answer that is not yes
  is-no : bad_answer conditional x ≡ 0 → eqb x 1 ≡ false → eqb x 2 ≡ true
  unfolding bad_answer one_or_two
  is-no r d = cases (decided (eqb x 2)) (λ e. e) (λ e. let z : ◌≡◌ {A = ℕ} 13 0 = rw (d, e) at r in absurd (omega arith))

  is-yes : bad_answer conditional x ≡ 0 → eqb x 2 ≡ false → eqb x 1 ≡ true
  unfolding bad_answer one_or_two
  is-yes r d = cases (decided (eqb x 1)) (λ e. e) (λ e. let z : ◌≡◌ {A = ℕ} 13 0 = rw (e, d) at r in absurd (omega arith))

  -- a block begins with its first child, or its second where it is a conditional that is answered by no
  pub begins-on : (k : Kind) → (k ≡ task → ⊥) → says_no k x ≡ false → bad_answer k x ≡ 0 → goes k x nothing ≡ true
  unfolding says_no goes goes_by nothing is_kind kind_number
  begins-on task n d r = absurd (n refl)
  begins-on serial n d r = refl
  begins-on and n d r = refl
  begins-on or n d r = refl
  begins-on xor n d r = refl
  begins-on contingency n d r = refl
  begins-on conditional n d r = is-yes r d
  begins-on waiting n d r = refl

module _ (x : ℕ) (t : Tally) where
  -- a conditional that has met a child
  second : (n : ℕ) → suc t.places ≤ n → eqb n 0 ≡ false
  second n g = ne_eqb n 0 (λ e. omega arith)

  works-over : (k : Kind) → done_by k x 3 ≡ true → Over k x (note x t works)
  unfolding done_by goes goes_by late note is_kind kind_number
  works-over task d n g = absurd (false≢true d)
  works-over serial d n g = absurd (false≢true d)
  works-over and d n g = absurd (false≢true d)
  works-over or d n g = absurd (false≢true d)
  works-over xor d n g = absurd (false≢true d)
  works-over contingency d n g = and-false (eqb t.wrong 0)
  works-over conditional d n g = rw (second n g, eqb-true x 1 d, and-false)
  works-over waiting d n g = absurd (false≢true d)

  breaks-over : (k : Kind) → done_by k x 4 ≡ true → Over k x (note x t breaks)
  unfolding done_by goes goes_by late note is_kind kind_number
  breaks-over task d n g = absurd (false≢true d)
  breaks-over serial d n g = and-false (eqb t.wrong 0)
  breaks-over and d n g = absurd (false≢true d)
  breaks-over or d n g = absurd (false≢true d)
  breaks-over xor d n g = absurd (false≢true d)
  breaks-over contingency d n g = absurd (false≢true d)
  breaks-over conditional d n g = rw (second n g, eqb-true x 1 d, and-false)
  breaks-over waiting d n g = absurd (false≢true d)

  on-conditional : bad_answer conditional x ≡ 0 → eqb x 1 ≡ false → goes conditional x t ≡ true → (eqb t.wrong 0 && eqb x 2) ≡ true
  unfolding goes
  on-conditional r d g = and-join _ _ (and_left (eqb t.wrong 0) (goes_by conditional x t) g) (is-no x r d)

  works-on : (k : Kind) → done_by k x 3 ≡ false → bad_answer k x ≡ 0 → goes k x t ≡ true → goes k x (note x t works) ≡ true
  unfolding done_by goes goes_by note is_kind kind_number
  works-on task d r g = never (eqb t.wrong 0) g
  works-on serial d r g = g
  works-on and d r g = g
  works-on or d r g = g
  works-on xor d r g = g
  works-on contingency d r g = absurd (true≢false d)
  works-on conditional d r g = rw (second (suc t.places) (omega arith)) (on-conditional r d g)
  works-on waiting d r g = g

  breaks-on : (k : Kind) → done_by k x 4 ≡ false → bad_answer k x ≡ 0 → goes k x t ≡ true → goes k x (note x t breaks) ≡ true
  unfolding done_by goes goes_by note is_kind kind_number
  breaks-on task d r g = never (eqb t.wrong 0) g
  breaks-on serial d r g = absurd (true≢false d)
  breaks-on and d r g = g
  breaks-on or d r g = g
  breaks-on xor d r g = g
  breaks-on contingency d r g = g
  breaks-on conditional d r g = rw (second (suc t.places) (omega arith)) (on-conditional r d g)
  breaks-on waiting d r g = g

  -- behind a child that ended as o, which is no fault
  module _ (k : Kind) (o : ℕ) (l : 3 ≤ o) (m : o ≤ 4) where
    pub over_done : done_by k x o ≡ true → Over k x (note x t (outcome_of o))
    unfolding outcome_of note
    over_done d n g = cases (worked-or-broke o l m)
        (λ q. rw q (works-over k (rw q at d) n (rw q at g)))
        (λ q. rw q (breaks-over k (rw q at d) n (rw q at g)))

    pub goes_on : done_by k x o ≡ false → bad_answer k x ≡ 0 → goes k x t ≡ true → goes k x (note x t (outcome_of o)) ≡ true
    unfolding outcome_of
    goes_on d r g = cases (worked-or-broke o l m)
        (λ q. rw q (works-on k (rw q at d) r g))
        (λ q. rw q (breaks-on k (rw q at d) r g))
