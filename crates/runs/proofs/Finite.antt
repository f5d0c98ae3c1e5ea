-- Tests of all that a node shows, its mark, its answer and whether it is picked, against an event's code: computed once, then taken at a point.
-- Assumes nothing.
use mathlib.Core.Path.{◌≡◌, refl}
use mathlib.Core.Bool.{Bool, true, false, not, ◌||◌, false≢true}
use mathlib.Core.List.{List, [], ◌∷◌}
use Rattle.lists.specs.Seq.{all}
use Rattle.lists.specs.Member.{In, here, there}
use Rattle.lists.proofs.Members.{all-at}
use Rattle.event.specs.Event.{Code}
use Rattle.event.proofs.CodeLaws.{codes, in-codes}
use Rattle.central.specs.Mark.{Mark}
use Rattle.central.specs.Central.{Answer, none, said-yes, said-no}
use Rattle.central.proofs.MarkLaws.{marks, in-marks}

-- all there are
unfoldable pub answers : List Answer
answers = none ∷ said-yes ∷ said-no ∷ []

unfoldable pub bools : List Bool
bools = true ∷ false ∷ []

in-answers : (a : Answer) → In a answers
unfolding answers
in-answers none = here refl
in-answers said-yes = there (here refl)
in-answers said-no = there (there (here refl))

in-bools : (b : Bool) → In b bools
unfolding bools
in-bools true = here refl
in-bools false = there (here refl)

abbrev pub tested : (Code → Bool → Mark → Answer → Bool → Bool) → Bool
tested f = all (λ c. all (λ x. all (λ m. all (λ a. all (λ k. f c x m a k) bools) answers) marks) bools) codes

pub tested_at : (f : Code → Bool → Mark → Answer → Bool → Bool) → tested f ≡ true →
    (c : Code) (x : Bool) (m : Mark) (a : Answer) (k : Bool) → f c x m a k ≡ true
tested_at f h c x m a k =
    all-at (λ k. f c x m a k) (in-bools k)
    (all-at (λ a. all (λ k. f c x m a k) bools) (in-answers a)
    (all-at (λ m. all (λ a. all (λ k. f c x m a k) bools) answers) (in-marks m)
    (all-at (λ x. all (λ m. all (λ a. all (λ k. f c x m a k) bools) answers) marks) (in-bools x)
    (all-at (λ c. all (λ x. all (λ m. all (λ a. all (λ k. f c x m a k) bools) answers) marks) bools) (in-codes c) h))))

pub implied : (a b : Bool) → (not a || b) ≡ true → a ≡ true → b ≡ true
implied true b h e = h
implied false b h e = absurd (false≢true e)

-- of a mark alone
pub mark-implies : (f g : Mark → Bool) → all (λ m. not (f m) || g m) marks ≡ true → (m : Mark) → f m ≡ true → g m ≡ true
mark-implies f g h m e = implied (f m) (g m) (all-at (λ m. not (f m) || g m) (in-marks m) h) e
