-- The call: bytes that are compared, copied and lent, and the order of its numbers. Assumes nothing.
use mathlib.Core.Path.{◌≡◌, refl, sym, ◌∙◌, ap}
use mathlib.Core.Bool.{Bool, true, false, cond, not, ◌&&◌}
use mathlib.Core.List.{List, ◌++◌}
use Prim.Native.Nat.{ℕ, ◌*◌, ◌≤◌, ◌<◌}
use native.Mathlib.Omega.{arith}
use lib.Dec.{eqb}
use lib.ListN.{length, get_or, take, drop, set, replicate, length-set}
use borrow.Author.Tests.{eqb-true, eqb-false, ne_eqb, lt-ltb, le-ltb, le-leb, lt-leb}
use Rattle.std.specs.Bool.{Decides}
use Rattle.std.specs.Cmp.Lexicographic.{pointwise}
use Rattle.std.specs.Prelude.{Ok, Err}
use Rattle.std.proofs.lemmas.Slice.Eq.{slice_eq-Decides}
use Rattle.std.proofs.lemmas.Bool.Decides.{Decides-eqb}
use Rattle.reach.proofs.ImpactLaws.{marks-are, are-marks}
use Rattle.lists.proofs.Logic.{cases, decided, same_bool}
use Rattle.lists.proofs.Parts.{Back, back_is}
use denote.Enum.Bare.{sameb}
use Rattle.fault.specs.declared.Fault.{Fault}
use Rattle.fault.specs.Number.{fault_number}
use Rattle.plan.specs.contracts.kinds.Kind.{the_type as kinds}
use Rattle.plan.specs.declared.kinds.Kind.{Kind}
use Rattle.pass.proofs.TableLaws.{task-told}
use Rattle.plan.specs.Plan.{size, kind, kind_of, kind_byte, is_kind}
use Rattle.plan.specs.declared.kinds.Kind.TheVariants.{Task as task}
use Rattle.plan.specs.Check.{fit_number}
use Rattle.pass.specs.Pass.{PassResult, pass_result, pass, pass_number, pass_into}
use Rattle.pass.specs.Values.{Ready}
use Rattle.pass.proofs.PassLaws.{fits-ready, ready-into}
use Rattle.reach.specs.Impact.{are_marks, new_number, change_number, impact_number, impact_into}
use Rattle.impact.specs.Change.{Changeable, change_into, ToldOf}

-- the front of a local array, in which a function left s, is lent again
pub lent_again : (p a s z m : List ℕ) (n : ℕ) (r : PassResult) → Back s z n → s ≡ a → pass_into p (take n (s ++ drop n z)) m ≡ r → pass_into p a m ≡ r
lent_again p a s z m n r b e q = ap (λ y. pass_into p y m) (sym (back_is b ∙ e)) ∙ q

module _ {p a : List ℕ} {t : ℕ} (r : Changeable p a t) (n : ℕ) (e : n ≡ size p) where
  pub set_back : (x : ℕ) (s : List ℕ) → s ≡ set a t x → Back s (replicate 160 0) n
  set_back x s q = record { long = ap length q ∙ length-set a t x ∙ r.answers ∙ sym e }

  pub new-ready : (x : ℕ) (s m : List ℕ) → s ≡ set a t x → length m ≡ size p → Ready p (take n (s ++ drop n (replicate 160 0))) m 0
  new-ready x s m q l = record { accepted = r.accepted; answers = ap length (back_is (set_back x s q) ∙ q) ∙ length-set a t x ∙ r.answers; marks = l; node = r.accepted.some }

-- what a pass that was ready answers and leaves
module _ (p a m : List ℕ) (r : Ready p a m 0) (k : ℕ) (n : List ℕ) (q : pass_into p a m ≡ pass_result k n) where
  into-number : k ≡ (pass p a).number
  into-number = sym (ap (λ z. z.number) (sym (ready-into p a m r) ∙ q)) ∙ go (eqb (pass p a).number 0)
    where
      go : (b : Bool) → (cond (not b) (pass_result (pass p a).number m) (pass p a)).number ≡ (pass p a).number
      go true = refl
      go false = refl

  into-marks : (pass p a).number ≡ 0 → n ≡ (pass p a).marks
  into-marks z = sym (ap (λ z. z.marks) (sym (ready-into p a m r) ∙ q)) ∙ rw z

-- the number of the new answers, by a pass into any marks
pub new-number-is : (p a m : List ℕ) (t x k : ℕ) (n : List ℕ) → Changeable p a t → length m ≡ size p → pass_into p (set a t x) m ≡ pass_result k n → k ≡ (pass p (set a t x)).number
new-number-is p a m t x k n r l q =
    into-number p (set a t x) m (record { accepted = r.accepted; answers = length-set a t x ∙ r.answers; marks = l; node = r.accepted.some }) k n q

-- what the old pass tells: s are the marks that it left in an array's front, y whether these are the same
pub told_is : (p a m s z b : List ℕ) (n : ℕ) (y : Bool) → Ready p a b 0 → n ≡ size p → Back s z n → pass_into p a b ≡ pass_result 0 s →
    length m ≡ size p → y ≡ pointwise eqb m (take n (s ++ drop n z)) → ToldOf p a m (Ok y)
told_is p a m s z b n y r e back q l w = record { number = none; same = same_bool y (are_marks p a m) (λ t. are-marks p a m (d.0 t ∙ left)) (λ t. d.1 (marks-are p a m l r.accepted (sym none) t ∙ sym left)) }
  where
    none : 0 ≡ (pass p a).number
    none = into-number p a b r 0 s q

    left : take n (s ++ drop n z) ≡ (pass p a).marks
    left = back_is back ∙ into-marks p a b r 0 s q (sym none)

    d : Decides y (m ≡ take n (s ++ drop n z))
    d = slice_eq-Decides Decides-eqb m (take n (s ++ drop n z)) y w

pub told-fault : (p a m b s : List ℕ) (f : Fault) → Ready p a b 0 → pass_into p a b ≡ pass_result (fault_number f) s → ToldOf p a m (Err f)
told-fault p a m b s f r q = record { number = into-number p a b r (fault_number f) s q; same = tt }

-- whether node t is a task: k is its kind, b that it is another
module _ (p : List ℕ) (t : ℕ) (k : Kind) (is : k ≡ kind_of (get_or p (2 * t) 0)) (b : Bool) (e : b ≡ not (sameb kinds k task)) where
  kind-is : is_kind task (kind p t) ≡ sameb kinds k task
  unfolding kind kind_byte
  kind-is = ap (is_kind task) (sym is) ∙ sym (task-told k (sameb kinds k task) refl)

  other : (s : Bool) → not s ≡ true → s ≡ false
  other true h = sym h
  other false h = refl

  same : (s : Bool) → not s ≡ false → s ≡ true
  same true h = refl
  same false h = sym h

  pub no-task : b ≡ true → is_kind task (kind p t) ≡ false
  no-task h = kind-is ∙ other (sameb kinds k task) (sym e ∙ h)

  pub a-task : b ≡ false → is_kind task (kind p t) ≡ true
  a-task h = kind-is ∙ same (sameb kinds k task) (sym e ∙ h)

-- the change by its number
module _ (p a m : List ℕ) (t x : ℕ) where
  change-refused : (k : ℕ) → change_number p a m t x ≡ k → (k ≡ 0 → ⊥) → change_into p a m t x ≡ pass_result k m
  unfolding change_into
  change-refused k e n = rw (e, ne_eqb k 0 n)

  change-done : change_number p a m t x ≡ 0 → change_into p a m t x ≡ pass_result 0 (pass p (set a t x)).marks
  unfolding change_into
  change-done e = rw e

-- case by case
module _ (p a m : List ℕ) (t x : ℕ) (r : Changeable p a t) (l : length m ≡ size p) where
  pub change-old : (k : ℕ) → k ≡ (pass p a).number → (k ≡ 0 → ⊥) → change_into p a m t x ≡ pass_result k m
  change-old k e n = change-refused p a m t x k number n
    where
      number : change_number p a m t x ≡ k
      number = unfold change_number in rw (← e, ne_eqb k 0 n)

  module _ (old-none : (pass p a).number ≡ 0) where
    pub change-wide : 255 < x → change_into p a m t x ≡ pass_result 13 m
    change-wide w = change-refused p a m t x 13 number (λ e. omega arith)
      where
        number : change_number p a m t x ≡ 13
        number = unfold change_number new_number in rw (old-none, lt-leb x 255 w)

    module _ (byte : x ≤ 255) where
      new_is : new_number p a t x ≡ (pass p (set a t x)).number
      unfolding new_number
      new_is = rw (le-leb x 255 byte)

      pub change-later : (k : ℕ) → k ≡ (pass p (set a t x)).number → (k ≡ 0 → ⊥) → change_into p a m t x ≡ pass_result k m
      change-later k q n = change-refused p a m t x k number n
        where
          number : change_number p a m t x ≡ k
          number = unfold change_number in rw (old-none, new_is ∙ sym q, ne_eqb k 0 n)

      pub change-marks : (k : ℕ) → k ≡ (pass p (set a t x)).number → k ≡ 0 → are_marks p a m ≡ false → change_into p a m t x ≡ pass_result 28 m
      change-marks k q n w = change-refused p a m t x 28 number (λ e. omega arith)
        where
          number : change_number p a m t x ≡ 28
          number = unfold change_number in rw (old-none, new_is ∙ sym q ∙ n, w)

      pub change-same : (k : ℕ) (n : List ℕ) → are_marks p a m ≡ true → pass_into p (set a t x) m ≡ pass_result k n → change_into p a m t x ≡ pass_result k n
      change-same k n w q = cases (decided (eqb k 0))
          (λ e. change-done p a m t x (number (sym new ∙ eqb-true k 0 e))
          ∙ λ i. record { number = sym (eqb-true k 0 e) i; marks = sym (into-marks p (set a t x) m ready k n q (sym new ∙ eqb-true k 0 e)) i })
          (λ e. change-later k new (eqb-false k 0 e) ∙ ap (pass_result k) (sym (left (λ z. eqb-false k 0 e (new ∙ z)))))
        where
          ready : Ready p (set a t x) m 0
          ready = record { accepted = r.accepted; answers = length-set a t x ∙ r.answers; marks = l; node = r.accepted.some }

          new : k ≡ (pass p (set a t x)).number
          new = into-number p (set a t x) m ready k n q

          number : (pass p (set a t x)).number ≡ 0 → change_number p a m t x ≡ 0
          number z = unfold change_number in rw (old-none, new_is ∙ z, w)

          left : ((pass p (set a t x)).number ≡ 0 → ⊥) → n ≡ m
          left z = sym (ap (λ y. y.marks) (sym (ready-into p (set a t x) m ready) ∙ q)) ∙ rw (ne_eqb (pass p (set a t x)).number 0 z)

-- the tests before it: k is what `fit` answered, n the node count
module _ (p a m : List ℕ) (t x k n : ℕ) (count : n ≡ size p) (told : k ≡ fit_number p (eqb (length a) n && eqb (length m) n)) where
  fit-number : pass_number p a m ≡ k
  unfolding pass_number
  fit-number = rw (← count) (sym told)

  impact-refused : (j : ℕ) → impact_number p a m t x ≡ j → (j ≡ 0 → ⊥) → impact_into p a m t x ≡ pass_result j m
  unfolding impact_into
  impact-refused j e h = rw (e, ne_eqb j 0 h)

  pub impact-unfit : (k ≡ 0 → ⊥) → impact_into p a m t x ≡ pass_result k m
  impact-unfit h = impact-refused k number h
    where
      number : impact_number p a m t x ≡ k
      number = unfold impact_number in rw (fit-number, ne_eqb k 0 h)

  module _ (none : k ≡ 0) where
    pub impact-ready : Ready p a m 0
    impact-ready = fits-ready p a m (fit-number ∙ none)

    pub impact-no-node : n ≤ t → impact_into p a m t x ≡ pass_result 8 m
    impact-no-node l = impact-refused 8 number (λ e. omega arith)
      where
        number : impact_number p a m t x ≡ 8
        number = unfold impact_number in rw (fit-number ∙ none, le-ltb t (size p) (omega arith))

    module _ (l : t < n) where
      pub impact-changeable : Changeable p a t
      impact-changeable = record { accepted = impact-ready.accepted; answers = impact-ready.answers; node = omega arith }

      pub impact-no-task : is_kind task (kind p t) ≡ false → impact_into p a m t x ≡ pass_result 9 m
      impact-no-task not-task = impact-refused 9 number (λ e. omega arith)
        where
          number : impact_number p a m t x ≡ 9
          number = unfold impact_number in rw (fit-number ∙ none, lt-ltb t (size p) (omega arith), not-task)

      pub impact-change : is_kind task (kind p t) ≡ true → impact_into p a m t x ≡ change_into p a m t x
      unfolding impact_into change_into
      impact-change e = rw number
        where
          number : impact_number p a m t x ≡ change_number p a m t x
          number = unfold impact_number in rw (fit-number ∙ none, lt-ltb t (size p) (omega arith), e)
