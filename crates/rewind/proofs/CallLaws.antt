-- A take-back with points and going back, each answer of them, where the plan, the lengths and the points are right. Assumes nothing.
use mathlib.Core.Path.{◌≡◌, refl, sym, ◌∙◌, ap}
use mathlib.Core.Bool.{true, ◌&&◌}
use mathlib.Core.List.{List}
use Prim.Native.Nat.{ℕ, ◌-◌, ◌*◌, ◌≤◌, ◌<◌}
use native.Mathlib.Omega.{arith}
use borrow.Author.Tests.{eq-eqb, ne_eqb, eqb-true, eqb-false, not-true, lt-ltb, le-ltb, le-leb}
use lib.Dec.{eqb, leb}
use lib.ListN.{length, get_or}
use Rattle.lists.proofs.Logic.{cases, decided, and_left, and-join}
use Rattle.plan.specs.Plan.{size}
use Rattle.plan.proofs.Main.{fit-exact}
use Rattle.event.specs.Site.{Layout}
use Rattle.job.specs.Simulation.{state_fits}
use Rattle.layout.specs.Layout.{Laid}
use Rattle.journal.specs.declared.Entry.{Entry}
use Rattle.journal.specs.Journal.{Undone, undone, undo_of}
use Rattle.keeping.proofs.UndoLaws.{undo-none}
use Rattle.points.specs.Points.{points, in_use, place_at, slot_of, points_fit, dropped}
use Rattle.points.proofs.FirstLaws.{slot_has}
use Rattle.points.proofs.Main.{points-claim}
use Rattle.rewind.specs.Return.{Returned, returned, returned_by, point_undo_fits, point_undo_of, back_of, back_fits, point_back_of}
use Rattle.rewind.specs.Rewound.{last_of, first_fault, rewound}
use Rattle.rewind.proofs.BackLaws.{back-dry}

-- what was taken back, or all left
module _ (u : Undone) (st : List ℕ) (k : ℕ) (names places : List ℕ) where
  pub returned-done : u.number ≡ 0 → returned_by u st k names places ≡ returned 0 u.state u.count (dropped u.count names places)
  unfolding returned_by
  returned-done z = rw (eq-eqb u.number 0 z)

  pub returned-left : (u.number ≡ 0 → ⊥) → returned_by u st k names places ≡ returned u.number st k (points names places)
  unfolding returned_by
  returned-left h = rw (ne_eqb u.number 0 h)

-- one step back is a take-back
back_one : (p : List ℕ) (lay : Layout) (row : ℕ → ℕ) (st : List ℕ) (es : List Entry) (k : ℕ) → back_of p lay row 1 st es k ≡ undo_of p lay row st es k
unfolding back_of
back_one p lay row st es k =
    let u : Undone = undo_of p lay row st es k in
    cases (decided (eqb (undo_of p lay row st es k).number 0)) (λ z. rw z (ap (λ (n : ℕ). undone n u.state u.count) (sym (eqb-true u.number 0 z)))) (λ z. rw z)

-- THE SLOT of a name that has a point: its word is not 0, and its place is in the journal
module _ (names places : List ℕ) (k : ℕ) (right : points_fit names places k ≡ true) (name : List ℕ) (s : ℕ) (is : s ≡ slot_of names places name) (l : s < 16) where
  in_use_lem : in_use places s ≡ true
  in_use_lem = rw is (and_left _ _ (slot_has names places name (rw is at l)))

  pub word_some : 0 < get_or places s 0
  word_some = let h = eqb-false (get_or places s 0) 0 (not-true _ in_use_lem) in omega arith

  pub place-within : place_at places s ≤ k
  place-within = ((points-claim.exact names places k).0 right).within s l in_use_lem

module _ (p : List ℕ) (lay : Layout) (row : ℕ → ℕ) (st : List ℕ) (laid : Laid p lay st) (es : List Entry) (k : ℕ) (within : k ≤ length es) (names places : List ℕ) where
  -- THE WAY BACK to a place: its number is that of the look at the entries, and what it leaves that of the clearing
  module _ (place : ℕ) (near : place ≤ k) where
    abbrev way : Undone
    way = back_of p lay row (k - place) st es k

    pub way-refused : (n : ℕ) → n ≡ first_fault p lay row es (k - place) k → (n ≡ 0 → ⊥) → returned_by way st k names places ≡ returned n st k (points names places)
    way-refused n f bad =
        let e : way.number ≡ n = (back-dry p lay row (k - place) st es k laid (omega arith) within).0 ∙ sym f in
        returned-left way st k names places (λ z. bad (sym e ∙ z)) ∙ rw e

    pub way-done : first_fault p lay row es (k - place) k ≡ 0 → (st' : List ℕ) → st' ≡ rewound p lay row st es (k - place) k →
        (names' places' : List ℕ) → dropped place names places ≡ points names' places' → returned_by way st k names places ≡ returned 0 st' place (points names' places')
    way-done z st' r names' places' d =
        let e : k - (k - place) ≡ place = omega arith in
        let u : way ≡ undone 0 st' place = (back-dry p lay row (k - place) st es k laid (omega arith) within).1 z ∙ rw (e, r) in
        rw u (returned-done (undone 0 st' place) st k names places refl ∙ rw d)

  module _ (right : points_fit names places k ≡ true) where
    fits_all : (state_fits p lay st && leb k (length es) && points_fit names places k) ≡ true
    unfolding state_fits
    fits_all = and-join _ _ (and-join _ _ (eq-eqb (length st) (lay.rows * size p) laid.long) (le-leb k (length es) within)) right

    -- A TAKE-BACK is the way back to the place before the last step
    undo-goes : point_undo_of p lay row st es k names places ≡ returned_by (undo_of p lay row st es k) st k names places
    unfolding point_undo_of point_undo_fits
    undo-goes = rw ((fit-exact p _).none.1 (laid.plan, fits_all))

    pub undo-empty : k ≡ 0 → point_undo_of p lay row st es k names places ≡ returned 16 st k (points names places)
    undo-empty z = undo-goes ∙ rw (undo-none p lay row st laid (last_of es k) es k within (λ l. absurd (omega arith))) (returned-left (undone 16 st k) st k names places (λ e. absurd (omega arith)))

    pub undo-way : (k ≡ 0 → ⊥) → (r : Returned) → returned_by (back_of p lay row (k - (k - 1)) st es k) st k names places ≡ r → point_undo_of p lay row st es k names places ≡ r
    undo-way some r h = let e : k - (k - 1) ≡ 1 = omega arith in
        undo-goes ∙ ap (λ (u : Undone). returned_by u st k names places) (sym (back_one p lay row st es k) ∙ rw e) ∙ h

    -- GOING BACK to a name whose slot is s
    module _ (name : List ℕ) (long : length name ≡ 8) (s : ℕ) (is : s ≡ slot_of names places name) where
      back_fits_lem : back_fits p lay row name st es k names places ≡ 0
      unfolding back_fits state_fits
      back_fits_lem = (fit-exact p _).none.1 (laid.plan, and-join _ _ (and-join _ _ (and-join _ _ (eq-eqb (length name) 8 long) (eq-eqb (length st) (lay.rows * size p) laid.long)) (le-leb k (length es) within)) right)

      pub back-unknown : 16 ≤ s → point_back_of p lay row name st es k names places ≡ returned 19 st k (points names places)
      unfolding point_back_of
      back-unknown l = rw (back_fits_lem, ← is, le-ltb s 16 l)

      pub back-way : s < 16 → (r : Returned) → returned_by (back_of p lay row (k - place_at places s) st es k) st k names places ≡ r → point_back_of p lay row name st es k names places ≡ r
      unfolding point_back_of
      back-way l r h = rw (back_fits_lem, ← is, lt-ltb s 16 l) h
