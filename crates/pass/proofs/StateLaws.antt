-- What a block comes to by a byte, its state, is what its tally says, kind by kind. Assumes nothing.
use mathlib.Core.Path.{◌≡◌, refl, sym, ◌∙◌}
use mathlib.Core.Bool.{Bool, true, false, cond, ◌&&◌, ◌||◌, not, false≢true}
use mathlib.Core.Logic.{◌⊎◌, inl, inr}
use Prim.Native.Nat.{ℕ, suc, ◌≤◌, ◌<◌}
use native.Mathlib.Omega.{arith}
use lib.Dec.{eqb}
use borrow.Author.Tests.{eqb-true, eqb-false, ne_eqb}
use Rattle.lists.proofs.Logic.{cases, decided}
use Rattle.plan.specs.Plan.{kind_number, is_kind}
use Rattle.plan.specs.declared.kinds.Kind.{Kind}
use Rattle.plan.specs.declared.kinds.Kind.TheVariants.{Task as task, Serial as serial, And as and, Or as or, Xor as xor, Contingency as contingency, Conditional as conditional, Waiting as waiting}
use Rattle.pass.specs.Pass.{Outcome, works, breaks, fault, Tally, one_or_two, bad_answer, bad_pick, closes, good_mark, child_mark, note, nothing, ending, end_of}
use Rattle.pass.specs.Values.{outcome_of, tally_of, so_far, comes_to, ends_as}

-- an end that is no fault's number
pub worked-or-broke : (o : ℕ) → 3 ≤ o → o ≤ 4 → (o ≡ 3) ⊎ (o ≡ 4)
worked-or-broke o l h = cases (decided (eqb o 3)) (λ e. inl (eqb-true o 3 e)) (λ e. let n = eqb-false o 3 e in inr (omega arith))

pub end-fault : (o : ℕ) → 4 < o → outcome_of o ≡ fault o
unfolding outcome_of
end-fault o l = rw (ne_eqb o 3 (λ e. omega arith), ne_eqb o 4 (λ e. omega arith))

thirteen : (b : Bool) → (◌≡◌ {A = ℕ} (cond b 0 13) 0 → ⊥) → ◌≡◌ {A = ℕ} (cond b 0 13) 13
thirteen true n = absurd (n refl)
thirteen false n = refl

pub wrong_answer : (k : Kind) (x : ℕ) → (bad_answer k x ≡ 0 → ⊥) → bad_answer k x ≡ 13
unfolding bad_answer
wrong_answer task x n = thirteen (one_or_two x) n
wrong_answer serial x n = absurd (n refl)
wrong_answer and x n = absurd (n refl)
wrong_answer or x n = absurd (n refl)
wrong_answer xor x n = absurd (n refl)
wrong_answer contingency x n = absurd (n refl)
wrong_answer conditional x n = thirteen (one_or_two x) n
wrong_answer waiting x n = absurd (n refl)

pub note-places : (x : ℕ) (t : Tally) (o : Outcome) → (note x t o).places ≡ suc t.places
unfolding note
note-places x t works = refl
note-places x t breaks = refl
note-places x t (fault n) = refl

-- a block of kind k with this tally came to e; no child had a fault, and a chosen one worked
pub record Seen (k : Kind) (t : Tally) (e : ℕ) : Type 0 where
  pub is : e ≡ so_far k t
  pub no-fault : t.wrong ≡ 0
  pub sound : t.chosen ≡ true → t.worked ≡ true

not-five : (b : Bool) (m n : ℕ) → m < 5 → n < 5 → cond b m n ≡ 5 → ⊥
not-five true m n l h e = omega (arith, e)
not-five false m n l h e = omega (arith, e)

-- children that offer are an xor's
pub seen-down : (k : Kind) (t : Tally) (e : ℕ) → Seen k t e → e ≡ 5 → k ≡ xor
unfolding so_far
seen-down k t e h f = go k (sym h.is ∙ f)
  where
    go : (k : Kind) → so_far k t ≡ 5 → k ≡ xor
    go task q = absurd (not-five t.worked 3 4 (omega arith) (omega arith) q)
    go serial q = absurd (not-five t.broke 4 3 (omega arith) (omega arith) q)
    go and q = absurd (not-five t.broke 4 3 (omega arith) (omega arith) q)
    go or q = absurd (not-five t.worked 3 4 (omega arith) (omega arith) q)
    go xor q = refl
    go contingency q = absurd (not-five t.worked 3 4 (omega arith) (omega arith) q)
    go conditional q = absurd (not-five t.worked 3 4 (omega arith) (omega arith) q)
    go waiting q = absurd (not-five t.broke 4 3 (omega arith) (omega arith) q)

pub seen_none : (k : Kind) → Seen k nothing (so_far k nothing)
unfolding nothing
seen_none k = record { is = refl; no-fault = refl; sound = λ e. absurd (false≢true e) }

module _ (x : ℕ) (t : Tally) where
  xor-works : (b w c : Bool) → (c ≡ true → w ≡ true) → comes_to 4 (cond w (cond c 3 5) 4) (cond (not b) 5 3) ≡ cond (c || b) 3 5
  unfolding comes_to
  xor-works true w true h = refl
  xor-works true w false h = refl
  xor-works false true true h = refl
  xor-works false true false h = refl
  xor-works false false true h = absurd (false≢true (h refl))
  xor-works false false false h = refl

  comes-works : (k : Kind) → (t.chosen ≡ true → t.worked ≡ true) → comes_to (so_far k nothing) (so_far k t) (child_mark k x t works) ≡ so_far k (note x t works)
  unfolding comes_to so_far nothing child_mark good_mark note is_kind kind_number
  comes-works task h = refl
  comes-works serial h = refl
  comes-works and h = refl
  comes-works or h = refl
  comes-works xor h = xor-works (eqb (suc t.places) x) t.worked t.chosen h
  comes-works contingency h = refl
  comes-works conditional h = refl
  comes-works waiting h = refl

  comes-breaks : (k : Kind) → comes_to (so_far k nothing) (so_far k t) (child_mark k x t breaks) ≡ so_far k (note x t breaks)
  unfolding comes_to so_far nothing child_mark note
  comes-breaks task = refl
  comes-breaks serial = refl
  comes-breaks and = refl
  comes-breaks or = refl
  comes-breaks xor = refl
  comes-breaks contingency = refl
  comes-breaks conditional = refl
  comes-breaks waiting = refl

pub seen_more : (k : Kind) (x : ℕ) (t : Tally) (e o s y : ℕ) → Seen k t e → 3 ≤ o → o ≤ 4 → s ≡ so_far k nothing → y ≡ child_mark k x t (outcome_of o) →
    Seen k (note x t (outcome_of o)) (comes_to s e y)
unfolding note outcome_of
seen_more k x t e o s y h l m f g = cases (worked-or-broke o l m)
    (λ q. rw (g, f, h.is, q) (record { is = comes-works x t k h.sound; no-fault = h.no-fault; sound = λ z. refl }))
    (λ q. rw (g, f, h.is, q) (record { is = comes-breaks x t k; no-fault = h.no-fault; sound = h.sound }))

-- the byte o says that the outcome is r
pub record Ends (o : ℕ) (r : Outcome) : Type 0 where
  pub is : outcome_of o ≡ r
  pub least : 3 ≤ o

by-broke : (b : Bool) → Ends (cond b 4 3) (cond (not b) works breaks)
unfolding outcome_of
by-broke true = record { is = refl; least = omega arith }
by-broke false = record { is = refl; least = omega arith }

by-worked : (b : Bool) → Ends (cond b 3 4) (cond b works breaks)
unfolding outcome_of
by-worked true = record { is = refl; least = omega arith }
by-worked false = record { is = refl; least = omega arith }

-- of an xor: w one worked, c the chosen one did, z the answer is 0
by-pick : (w c z : Bool) → (e : ℕ) → e ≡ cond w (cond c 3 5) 4 →
    Ends (cond (not (eqb e 3)) (cond (eqb e 4 && z) 4 14) e) (ending 0 (cond (cond w c z) 0 14) w)
unfolding outcome_of ending
by-pick true true z e q = rw q (record { is = refl; least = omega arith })
by-pick true false z e q = rw q (record { is = refl; least = omega arith })
by-pick false c true e q = rw q (record { is = refl; least = omega arith })
by-pick false c false e q = rw q (record { is = refl; least = omega arith })

pub seen_end : (k : Kind) (x : ℕ) (t : Tally) (e : ℕ) → (k ≡ task → ⊥) → Seen k t e → Ends (ends_as k x e) (end_of k x t)
unfolding ends_as end_of ending bad_pick closes so_far is_kind kind_number
seen_end task x t e n h = absurd (n refl)
seen_end serial x t e n h = rw (h.is, h.no-fault) (by-broke t.broke)
seen_end and x t e n h = rw (h.is, h.no-fault) (by-broke t.broke)
seen_end or x t e n h = rw (h.is, h.no-fault) (by-worked t.worked)
seen_end xor x t e n h = rw h.no-fault (by-pick t.worked t.chosen (eqb x 0) e h.is)
seen_end contingency x t e n h = rw (h.is, h.no-fault) (by-worked t.worked)
seen_end conditional x t e n h = rw (h.is, h.no-fault) (by-worked t.worked)
seen_end waiting x t e n h = rw (h.is, h.no-fault) (by-broke t.broke)

-- a child's mark asks for its place in an xor only
pub mark-place : (k : Kind) (x n : ℕ) (t : Tally) (o : Outcome) → (is_kind xor k ≡ true → n ≡ t.places) → child_mark k x (tally_of n) o ≡ child_mark k x t o
unfolding child_mark good_mark tally_of
mark-place k x n t works h = go (is_kind xor k) refl
  where
    go : (b : Bool) → is_kind xor k ≡ b → good_mark k x (suc n) ≡ good_mark k x (suc t.places)
    go true e = rw (h e)
    go false e = rw e
mark-place k x n t breaks h = refl
mark-place k x n t (fault f) h = refl
