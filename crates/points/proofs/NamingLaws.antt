-- The tests of points, and each answer of a naming. Assumes nothing.
use mathlib.Core.Path.{◌≡◌}
use mathlib.Core.Bool.{Bool, true, false, and-false, ◌&&◌}
use mathlib.Core.List.{List}
use Prim.Native.Nat.{ℕ, ◌+◌, ◌*◌, ◌≤◌, ◌<◌}
use native.Mathlib.Numerals.{add-one}
use native.Mathlib.Omega.{arith}
use borrow.Author.Tests.{eq-eqb, ne_eqb, eqb-true, lt-ltb, le-ltb}
use lib.Dec.{eqb, ltb}
use lib.ListN.{length, set}
use lib.Seq.{sets}
use Rattle.lists.proofs.Logic.{and_left, and_right, and-join}
use Rattle.points.specs.Points.{slot_of, free_slot, none_past, named_once, points_fit, name_fits, naming, name_of}

module _ (names places : List ℕ) (k : ℕ) where
  pub fit-names : (length names ≡ 128 → ⊥) → false ≡ points_fit names places k
  unfolding points_fit
  fit-names h = rw (ne_eqb (length names) 128 h)

  pub fit-places : (length places ≡ 16 → ⊥) → false ≡ points_fit names places k
  unfolding points_fit
  fit-places h = rw (ne_eqb (length places) 16 h, and-false (eqb (length names) 128))

  pub fit-slots : length names ≡ 128 → length places ≡ 16 → (b : Bool) → b ≡ (none_past places k && named_once names places) → b ≡ points_fit names places k
  unfolding points_fit
  fit-slots n p b e = rw (n, p) e

  pub fit-long : points_fit names places k ≡ true → (length names ≡ 128) × (length places ≡ 16)
  unfolding points_fit
  fit-long h =
      let ab = and_left _ _ (and_left _ _ h) in
      (eqb-true (length names) 128 (and_left _ _ ab), eqb-true (length places) 16 (and_right (eqb (length names) 128) _ ab))

  -- A NAMING
  module _ (name : List ℕ) where
    pub name-long : (length name ≡ 8 → ⊥) → name_of name k names places ≡ naming 7 names places
    unfolding name_of name_fits
    name-long h = rw (ne_eqb (length name) 8 h)

    module _ (long : length name ≡ 8) where
      pub name-far : k ≡ 18446744073709551615 → name_of name k names places ≡ naming 7 names places
      unfolding name_of name_fits
      name-far h = rw (long, le-ltb k 18446744073709551615 (omega arith))

      pub name-unfit : points_fit names places k ≡ false → name_of name k names places ≡ naming 7 names places
      unfolding name_of name_fits
      name-unfit h = rw (h, and-false (eqb (length name) 8 && ltb k 18446744073709551615))

      pub name-fits : (k ≡ 18446744073709551615 → ⊥) → k < 18446744073709551616 → points_fit names places k ≡ true → name_fits name k names places ≡ true
      unfolding name_fits
      name-fits h l f = and-join _ _ (and-join _ _ (eq-eqb (length name) 8 long) (lt-ltb k 18446744073709551615 (omega arith))) f

    module _ (fits : name_fits name k names places ≡ true) (s : ℕ) (is : s ≡ slot_of names places name) where
      pub name-known : s < 16 → name_of name k names places ≡ naming 0 names (set places s (k + 1))
      unfolding name_of
      name-known l = rw (fits, ← is, lt-ltb s 16 l, add-one)

      module _ (new : 16 ≤ s) (f : ℕ) (first : f ≡ free_slot places) where
        pub name-full : f ≡ 16 → name_of name k names places ≡ naming 20 names places
        unfolding name_of
        name-full e = rw (fits, ← is, le-ltb s 16 new, ← first, le-ltb f 16 (omega arith))

        pub name_new : f < 16 → (names' : List ℕ) → names' ≡ sets names (8 * f) name → name_of name k names places ≡ naming 0 names' (set places f (k + 1))
        unfolding name_of
        name_new l names' e = rw (fits, ← is, le-ltb s 16 new, ← first, lt-ltb f 16 l, add-one, ← e)
