-- Members of lists put one behind another. Assumes nothing.
use mathlib.Core.Path.{subst}
use mathlib.Core.List.{List, [], ◌∷◌, ◌++◌}
use mathlib.Core.Logic.{◌⊎◌, inl, inr}
use Rattle.std.specs.List.{flat_map}
use Rattle.lists.specs.Member.{In, here, there}
use Rattle.lists.proofs.Logic.{cases}
use Rattle.lists.proofs.Points.{in_left, in_right}

module _ {A : Type 0} where
  pub in-append : (xs ys : List A) {x : A} → In x (xs ++ ys) → In x xs ⊎ In x ys
  in-append [] ys i = inr i
  in-append (z ∷ xs) ys (here q) = inl (here q)
  in-append (z ∷ xs) ys (there i) = cases (in-append xs ys i) (λ j. inl (there j)) inr

module _ {A B : Type 0} where
  pub in-flat : (g : A → List B) {x : A} {y : B} {xs : List A} → In x xs → In y (g x) → In y (flat_map g xs)
  in-flat g {x} {y} (here {y = z} {xs = xs} q) j = in_left (flat_map g xs) (subst (λ (w : A). In y (g w)) q j)
  in-flat g (there {y = z} {xs = xs} i) j = in_right (g z) (in-flat g i j)
