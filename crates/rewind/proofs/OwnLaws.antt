-- The calls on a plan of two bytes a node: their tests, and the layout without tables. Assumes nothing.
use mathlib.Core.Path.{◌≡◌, sym, ◌∙◌}
use mathlib.Core.Bool.{Bool, true, ◌&&◌}
use mathlib.Core.List.{List}
use Prim.Native.Nat.{ℕ, ◌*◌, ◌≤◌}
use borrow.Author.Tests.{ne_eqb, eqb-true, leb-true}
use lib.Dec.{eqb, leb}
use lib.ListN.{length}
use Rattle.lists.proofs.Logic.{and_left, and_right}
use Rattle.plan.specs.Plan.{size}
use Rattle.plan.specs.Check.{Accepted, fit_number}
use Rattle.plan.proofs.Main.{fit-exact}
use Rattle.event.specs.Site.{own}
use Rattle.job.specs.Simulation.{state_fits}
use Rattle.layout.specs.Layout.{Laid}
use Rattle.simulation.proofs.OwnLaws.{own-laid}
use Rattle.journal.specs.declared.Entry.{Entry}
use Rattle.points.specs.Points.{points, points_fit}
use Rattle.rewind.specs.Return.{returned, point_undo_fits, point_undo_of, point_undo_own, back_fits, point_back_of, point_back_own}

module _ (p : List ℕ) (n : ℕ) (count : n ≡ size p) (st : List ℕ) (es : List Entry) (k : ℕ) (names places : List ℕ) where
  -- b is the code's test of the state's length, f that of the points, and r the number of all
  module _ (b : Bool) (square : b ≡ eqb (length st) (n * n)) (f : Bool) (fine : f ≡ points_fit names places k) (r : ℕ) where
    -- what the tests leave
    tested : Accepted p → b ≡ true → leb k (length es) ≡ true → f ≡ true → Laid p (own p) st × (k ≤ length es) × (points_fit names places k ≡ true)
    tested ok sq le ri = (own-laid p st ok (eqb-true _ _ (sym square ∙ sq) ∙ rw count), leb-true k (length es) le, sym fine ∙ ri)

    module _ (told : r ≡ fit_number p (b && leb k (length es) && f)) where
      undo-fits : point_undo_fits p (own p) (λ q. q) st es k names places ≡ r
      unfolding point_undo_fits state_fits own
      undo-fits = rw (← fine, ← count, ← square) (sym told)

      pub undo-unfit : (r ≡ 0 → ⊥) → point_undo_own p st es k names places ≡ returned r st k (points names places)
      unfolding point_undo_of
      undo-unfit bad = rw (undo-fits, ne_eqb r 0 bad)

      pub undo-tested : r ≡ 0 → Laid p (own p) st × (k ≤ length es) × (points_fit names places k ≡ true)
      undo-tested z =
          let t = (fit-exact p _).none.0 (sym told ∙ z) in
          let bl = and_left (b && leb k (length es)) f t.1 in
          tested t.0 (and_left b _ bl) (and_right b _ bl) (and_right (b && leb k (length es)) f t.1)

    module _ (name : List ℕ) (told : r ≡ fit_number p (eqb (length name) 8 && b && leb k (length es) && f)) where
      back_fits_lem : back_fits p (own p) (λ q. q) name st es k names places ≡ r
      unfolding back_fits state_fits own
      back_fits_lem = rw (← fine, ← count, ← square) (sym told)

      pub back-unfit : (r ≡ 0 → ⊥) → point_back_own p name st es k names places ≡ returned r st k (points names places)
      unfolding point_back_of
      back-unfit bad = rw (back_fits_lem, ne_eqb r 0 bad)

      pub back-tested : r ≡ 0 → (Laid p (own p) st × (k ≤ length es) × (points_fit names places k ≡ true)) × (length name ≡ 8)
      back-tested z =
          let t = (fit-exact p _).none.0 (sym told ∙ z) in
          let nbl = and_left (eqb (length name) 8 && b && leb k (length es)) f t.1 in
          let nb = and_left (eqb (length name) 8 && b) _ nbl in (
            tested t.0 (and_right (eqb (length name) 8) b nb) (and_right (eqb (length name) 8 && b) _ nbl) (and_right (eqb (length name) 8 && b && leb k (length es)) f t.1),
            eqb-true (length name) 8 (and_left _ b nb),
          )
