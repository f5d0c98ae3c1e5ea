-- A take-back with points, and going back to one (rules M5 and M6), each as one value: the answer and every lent byte but the entries, which are lent
-- to be read only. For any layout of rows, as the journal. Definitions only.
use Rattle.std.specs.Prelude.{cond, ◌&&◌, not, List, ℕ, zero, suc, ◌-◌, eqb, ltb, leb, length}
use Rattle.plan.specs.Check.{fit_number}
use Rattle.event.specs.Site.{Layout, own}
use Rattle.job.specs.Simulation.{state_fits}
use Rattle.journal.specs.declared.Entry.{Entry}
use Rattle.journal.specs.Journal.{Undone, undone, undo_of}
use Rattle.points.specs.Points.{Points, points, place_at, slot_of, points_fit, dropped}

-- M5, M6: the number, the state, the count and the points
pub record Returned : Type 0 where
  pub number : ℕ
  pub state : List ℕ
  pub count : ℕ
  pub left : Points

abbrev pub returned : ℕ → List ℕ → ℕ → Points → Returned
returned n st k ps = record { number = n; state = st; count = k; left = ps }

-- M5, M6: what was taken back, with the points past the new count dropped; or the number, with all left
unfoldable pub returned_by : Undone → List ℕ → ℕ → List ℕ → List ℕ → Returned
returned_by u st k names places =
    cond (eqb u.number 0) (returned 0 u.state u.count (dropped u.count names places)) (returned u.number st k (points names places))

module _ (p : List ℕ) (lay : Layout) (row : ℕ → ℕ) where
  -- M5: 1 to 6; 7 for the state's length, a count above the number of entries, and the points
  unfoldable pub point_undo_fits : List ℕ → List Entry → ℕ → List ℕ → List ℕ → ℕ
  point_undo_fits st es k names places = fit_number p (state_fits p lay st && leb k (length es) && points_fit names places k)

  -- M5: then as the journal's take-back
  unfoldable pub point_undo_of : List ℕ → List Entry → ℕ → List ℕ → List ℕ → Returned
  point_undo_of st es k names places =
      cond (not (eqb (point_undo_fits st es k names places) 0)) (returned (point_undo_fits st es k names places) st k (points names places))
      (returned_by (undo_of p lay row st es k) st k names places)

  -- M6: n steps taken back one by one, up to the first that is refused
  unfoldable pub back_of : ℕ → List ℕ → List Entry → ℕ → Undone
  back_of zero st es k = undone 0 st k
  back_of (suc n) st es k =
      cond (eqb (undo_of p lay row st es k).number 0) (back_of n (undo_of p lay row st es k).state es (undo_of p lay row st es k).count)
      (undo_of p lay row st es k)

  -- M6: 1 to 6; 7 as for a take-back with points, and for a name that has not 8 bytes
  unfoldable pub back_fits : List ℕ → List ℕ → List Entry → ℕ → List ℕ → List ℕ → ℕ
  back_fits name st es k names places = fit_number p (eqb (length name) 8 && state_fits p lay st && leb k (length es) && points_fit names places k)

  -- M6: then 19 where no point has the name, then the first number met on the way to its place, with all left
  unfoldable pub point_back_of : List ℕ → List ℕ → List Entry → ℕ → List ℕ → List ℕ → Returned
  point_back_of name st es k names places =
      cond (not (eqb (back_fits name st es k names places) 0)) (returned (back_fits name st es k names places) st k (points names places))
      (cond (not (ltb (slot_of names places name) 16)) (returned 19 st k (points names places))
      (returned_by (back_of (k - place_at places (slot_of names places name)) st es k) st k names places))

-- B4: where every node has its own row, named by its own number
abbrev pub point_undo_own : List ℕ → List ℕ → List Entry → ℕ → List ℕ → List ℕ → Returned
point_undo_own p st es k names places = point_undo_of p (own p) (λ q. q) st es k names places

abbrev pub point_back_own : List ℕ → List ℕ → List ℕ → List Entry → ℕ → List ℕ → List ℕ → Returned
point_back_own p name st es k names places = point_back_of p (own p) (λ q. q) name st es k names places
