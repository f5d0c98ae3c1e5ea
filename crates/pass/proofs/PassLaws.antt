-- The whole pass: what was refused before it, and how the settled root's marks are handed out. Assumes nothing.
use mathlib.Core.Path.{◌≡◌, refl, sym, ◌∙◌}
use mathlib.Core.Bool.{not, cond, ◌&&◌}
use mathlib.Core.List.{List, ◌++◌}
use Prim.Native.Nat.{ℕ, ◌≤◌, ◌<◌}
use native.Mathlib.Omega.{arith}
use lib.Dec.{eqb}
use lib.ListN.{length, set, take, drop, replicate}
use lib.Seq.{take_at}
use borrow.Author.Tests.{eq-eqb, ne_eqb, eqb-true}
use Rattle.lists.proofs.Logic.{cases, and_left, and_right, and-join}
use Rattle.lists.proofs.Lent.{fresh-zeros, fresh-length}
use Rattle.plan.specs.Plan.{size}
use Rattle.plan.specs.Check.{Accepted, fit_number}
use Rattle.plan.proofs.Main.{fit-exact}
use Rattle.pass.specs.Pass.{number_of, root_mark, pass_of, pass, pass_result, pass_number, pass_into}
use Rattle.pass.specs.Values.{outcome_of, Ready, Settles}
use Rattle.pass.proofs.StateLaws.{worked-or-broke, end-fault}

-- a pass that is not refused before it begins
module _ (p a m : List ℕ) where
  pub fits-ready : pass_number p a m ≡ 0 → Ready p a m 0
  unfolding pass_number
  fits-ready h =
      let f = (fit-exact p _).none.0 h in
      record {
        accepted = f.0;
        answers = eqb-true (length a) (size p) (and_left _ _ f.1);
        marks = eqb-true (length m) (size p) (and_right (eqb (length a) (size p)) _ f.1);
        node = f.0.some;
      }

  pub ready-fits : Ready p a m 0 → pass_number p a m ≡ 0
  unfolding pass_number
  ready-fits r = (fit-exact p _).none.1 (r.accepted, and-join _ _ (eq-eqb (length a) (size p) r.answers) (eq-eqb (length m) (size p) r.marks))

  pub ready-into : Ready p a m 0 → pass_into p a m ≡ cond (not (eqb (pass p a).number 0)) (pass_result (pass p a).number m) (pass p a)
  unfolding pass_into
  ready-into r = rw (ready-fits r)

-- k is what `fit` answered, n the node count
module _ (p a m : List ℕ) (k n : ℕ) (count : n ≡ size p) (told : k ≡ fit_number p (eqb (length a) n && eqb (length m) n)) where
  pub into-refused : (k ≡ 0 → ⊥) → pass_into p a m ≡ pass_result k m
  unfolding pass_into pass_number
  into-refused h = rw (← count, ← told, ne_eqb k 0 h)

  pub into-ready : k ≡ 0 → Ready p a m 0
  unfolding pass_number
  into-ready none = fits-ready p a m (rw (← count) (sym told ∙ none))

-- the buffer's front, which begins as zeros, and with y in its place
abbrev blank : ℕ → List ℕ
blank n = take n (replicate 160 0)

abbrev front : ℕ → List ℕ → List ℕ
front n y = take n (y ++ drop n (replicate 160 0))

module _ {p : List ℕ} (ok : Accepted p) (n : ℕ) (e : n ≡ size p) where
  pub blank-size : length (blank n) ≡ size p
  blank-size = fresh-length 160 n (size p) e ok.few

  pub blank-length : n ≡ length (blank n)
  blank-length = e ∙ sym blank-size

  pub blank-ready : {a : List ℕ} → length a ≡ size p → Ready p a (blank n) 0
  blank-ready l = record { accepted = ok; answers = l; marks = blank-size; node = ok.some }

-- the end of the root is its mark or its fault's number
root-works : (o : ℕ) → 3 ≤ o → o ≤ 4 → (number_of (outcome_of o) ≡ 0) × (root_mark (outcome_of o) ≡ o)
unfolding number_of root_mark outcome_of
root-works o l h = cases (worked-or-broke o l h) (λ e. rw e (refl, refl)) (λ e. rw e (refl, refl))

root-fault : (o : ℕ) → 4 < o → number_of (outcome_of o) ≡ o
unfolding number_of
root-fault o l = rw (end-fault o l)

-- the root was settled in the buffer's front, which left it as y, and ended as o
pub record Root (p a m : List ℕ) (n : ℕ) (y : List ℕ) (o : ℕ) : Type 0 where
  pub ready : Ready p a m 0
  pub size_is : n ≡ size p
  pub settled : Settles p a (blank n) 0 y o
  pub long : length y ≡ length (blank n)

module _ {p a m : List ℕ} {n : ℕ} {y : List ℕ} {o : ℕ} (root : Root p a m n y o) where
  fills : length y ≡ n
  fills = root.long ∙ sym (blank-length root.ready.accepted n root.size_is)

  front-is : front n y ≡ y
  front-is = take_at y (drop n (replicate 160 0)) n fills

  pass-is : pass p a ≡ pass_result (number_of (outcome_of o)) (set y 0 (root_mark (outcome_of o)))
  unfolding pass pass_of
  pass-is = rw (← fresh-zeros 160 n (size p) root.size_is root.ready.accepted.few, root.settled.by (size p) (omega arith))

  pub into-fault : 4 < o → pass_into p a m ≡ pass_result o m
  into-fault h = ready-into p a m root.ready ∙ rw (pass-is, root-fault o h, ne_eqb o 0 (λ e. omega arith))

  -- s is the front
  pub into-marks : o ≤ 4 → (s : List ℕ) → s ≡ front n y → pass_into p a m ≡ pass_result 0 (set s 0 o)
  into-marks h s f =
      let r = root-works o root.settled.least h in
      ready-into p a m root.ready ∙ rw (pass-is, r.0, r.1, f ∙ front-is)
