-- The three ends of a naming (rule M3): 7, 20, or the name in its slot; and what each says of points (rules M8 and M10). Assumes nothing.
use mathlib.Core.Path.{◌≡◌, refl, ◌∙◌, ap}
use mathlib.Core.Bool.{true, false}
use mathlib.Core.Logic.{◌↔◌}
use mathlib.Core.List.{List}
use Prim.Native.Nat.{ℕ, suc, ◌*◌, ◌≤◌, ◌<◌}
use native.Mathlib.Numerals.{add-one}
use native.Mathlib.Omega.{arith}
use borrow.Author.Tests.{eqb-true, ltb-true, ltb-false}
use lib.Dec.{ltb}
use lib.ListN.{length}
use lib.Seq.{sets}
use Rattle.lists.proofs.Logic.{cases, decided, clash, parts}
use Rattle.points.specs.Points.{in_use, same_name, slot_of, free_slot, name_fits, Naming, naming, name_of}
use Rattle.points.specs.Claim.{point_of, PointsRight}
use Rattle.points.proofs.NamingLaws.{name-known, name_new, name-full}
use Rattle.points.proofs.FirstLaws.{slot-none, free-none, free-out}
use Rattle.points.proofs.RightLaws.{fit-right, point-none, none-slot}
use Rattle.points.proofs.PlacedLaws.{Placed, placed-known, placed-new, placed-keeps, placed-there, placed-others}

module _ (name : List ℕ) (k : ℕ) (names places : List ℕ) where
  data Ended (r : Naming) : Type 0 where
    unfit : name_fits name k names places ≡ false → r ≡ naming 7 names places → Ended r
    filled : ((i : ℕ) → i < 16 → in_use places i ≡ true) → point_of names places name ≡ 0 → r ≡ naming 20 names places → Ended r
    placed : (s : ℕ) → Placed name k names places r.left.names r.left.places s → r.number ≡ 0 → Ended r

  end-unfit : name_fits name k names places ≡ false → Ended (name_of name k names places)
  unfolding name_of
  end-unfit h = unfit h (rw h)

  module _ (fits : name_fits name k names places ≡ true) where
    fits-right : PointsRight names places k
    unfolding name_fits
    fits-right = fit-right names places k (search parts)

    fits-long : length name ≡ 8
    unfolding name_fits
    fits-long = eqb-true (length name) 8 (search parts)

    module _ (s : ℕ) (is : s ≡ slot_of names places name) where
      end_known : s < 16 → Ended (name_of name k names places)
      end_known l = rw (name-known names places k name fits s is l, add-one k) (placed s (placed-known name k names places fits-right s is l) refl)

      module _ (new : 16 ≤ s) (f : ℕ) (first : f ≡ free_slot places) where
        end-new : f < 16 → Ended (name_of name k names places)
        end-new l = rw (name_new names places k name fits s is new f first l (sets names (8 * f) name) refl, add-one k)
            (placed f (placed-new name k names places fits-right fits-long (omega arith) f first l) refl)

        end-full : 16 ≤ f → Ended (name_of name k names places)
        end-full h =
            let all : (i : ℕ) → i < 16 → in_use places i ≡ true = free-none places (omega arith) in
            filled all (point-none names places name fits-right.places-long (slot-none names places name (omega arith)))
            (name-full names places k name fits s is new f first (first ∙ free-out places all))

  ended : Ended (name_of name k names places)
  ended = cases (decided (name_fits name k names places))
      (λ fits. cases (decided (ltb (slot_of names places name) 16))
      (λ e. end_known fits (slot_of names places name) refl (ltb-true (slot_of names places name) 16 e))
      (λ e. let new = ltb-false (slot_of names places name) 16 e in cases (decided (ltb (free_slot places) 16))
      (λ d. end-new fits (slot_of names places name) refl new (free_slot places) refl (ltb-true (free_slot places) 16 d))
      (λ d. end-full fits (slot_of names places name) refl new (free_slot places) refl (ltb-false (free_slot places) 16 d))))
      end-unfit

  -- by its end: r is what the naming answers and leaves
  number_of : (r : Naming) (n : ℕ) → r ≡ naming n names places → r.number ≡ n
  number_of r n e = ap (λ (q : Naming). q.number) e

  passed : (r : Naming) → Ended r → r.number ≡ 0 → (s : ℕ) × Placed name k names places r.left.names r.left.places s
  passed r (unfit h e) z = absurd (omega (arith, number_of r 7 e))
  passed r (filled a n e) z = absurd (omega (arith, number_of r 20 e))
  passed r (placed s p e) z = (s, p)

  kept : (r : Naming) → Ended r → PointsRight names places k → PointsRight r.left.names r.left.places k
  kept r (unfit h e) ok = rw e ok
  kept r (filled a n e) ok = rw e ok
  kept r (placed s p e) ok = placed-keeps name k names places r.left.names r.left.places s p

  module _ (fits : name_fits name k names places ≡ true) where
    full : (r : Naming) → Ended r → r.number ≡ 20 → ((i : ℕ) → i < 16 → in_use places i ≡ true) × (point_of names places name ≡ 0)
    full r (unfit h e) z = clash (name_fits name k names places) fits h
    full r (filled a n e) z = (a, n)
    full r (placed s p e) z = absurd (omega arith)

    else-0 : (r : Naming) → Ended r → (r.number ≡ 20 → ⊥) → r.number ≡ 0
    else-0 r (unfit h e) z = clash (name_fits name k names places) fits h
    else-0 r (filled a n e) z = absurd (z (number_of r 20 e))
    else-0 r (placed s p e) z = e

    pub naming-full : ((name_of name k names places).number ≡ 20) ↔ (((i : ℕ) → i < 16 → in_use places i ≡ true) × (point_of names places name ≡ 0))
    naming-full = (
      full (name_of name k names places) ended,
      λ h. number_of (name_of name k names places) 20 (name-full names places k name fits (slot_of names places name) refl (none-slot names places name h.1) (free_slot places) refl (free-out places h.0)),
    )

    pub naming-passes : ((name_of name k names places).number ≡ 20 → ⊥) → (name_of name k names places).number ≡ 0
    naming-passes = else-0 (name_of name k names places) ended

  pub naming-keeps : PointsRight names places k → PointsRight (name_of name k names places).left.names (name_of name k names places).left.places k
  naming-keeps = kept (name_of name k names places) ended

  module _ (z : (name_of name k names places).number ≡ 0) where
    pub naming-there : point_of (name_of name k names places).left.names (name_of name k names places).left.places name ≡ suc k
    naming-there = let p = passed (name_of name k names places) ended z in
        placed-there name k names places (name_of name k names places).left.names (name_of name k names places).left.places p.0 p.1

    pub naming-others : (other : List ℕ) → same_name other name ≡ false →
        point_of (name_of name k names places).left.names (name_of name k names places).left.places other ≡ point_of names places other
    naming-others = let p = passed (name_of name k names places) ended z in
        placed-others name k names places (name_of name k names places).left.names (name_of name k names places).left.places p.0 p.1
