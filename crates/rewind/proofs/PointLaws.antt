-- What a take-back and a going back do to the points, on anything that is lent (rules M5 and M10). Assumes nothing.
use mathlib.Core.Path.{◌≡◌, refl, sym, ◌∙◌, ap}
use mathlib.Core.Bool.{true, ◌&&◌, and-true}
use mathlib.Core.List.{List}
use Prim.Native.Nat.{ℕ, ◌-◌}
use native.Mathlib.Omega.{arith}
use lib.Dec.{eqb, leb, ltb}
use lib.ListN.{length}
use borrow.Author.Tests.{ne_eqb, eqb-true, eqb-false}
use Rattle.lists.proofs.Logic.{cases, decided, and_right}
use Rattle.plan.specs.Check.{fit_number}
use Rattle.plan.proofs.Main.{fit-exact}
use Rattle.event.specs.Site.{Layout}
use Rattle.job.specs.Simulation.{state_fits}
use Rattle.journal.specs.declared.Entry.{Entry}
use Rattle.journal.specs.Journal.{Undone, undo_fits, undo_number, undo_of}
use Rattle.journal.specs.Session.{Lent}
use Rattle.journal.proofs.UndoLaws.{undo-refused}
use Rattle.points.specs.Points.{place_at, slot_of, points_fit}
use Rattle.points.proofs.Main.{points-claim}
use Rattle.rewind.specs.Return.{Returned, returned_by, point_undo_fits, point_undo_of, back_of, back_fits, point_back_of}
use Rattle.rewind.specs.Session.{PointsLeft}
use Rattle.rewind.proofs.CallLaws.{returned-done, returned-left}

module _ (p : List ℕ) (lay : Layout) (row : ℕ → ℕ) (st : List ℕ) (es : List Entry) (k : ℕ) (names places : List ℕ) where
  -- what was taken back drops the points past the new count
  by-points : points_fit names places k ≡ true → (u : Undone) → (returned_by u st k names places).number ≡ 0 → PointsLeft p lay row names places (returned_by u st k names places)
  by-points fit u z name = cases (decided (eqb u.number 0))
      (λ e. rw (returned-done u st k names places (eqb-true u.number 0 e)) (points-claim.drops names places k fit u.count name))
      (λ e. let bad = eqb-false u.number 0 e in
      absurd (bad (ap (λ (r : Returned). r.number) (sym (returned-left u st k names places bad)) ∙ z)))

  pub undo-points : (point_undo_of p lay row st es k names places).number ≡ 0 → PointsLeft p lay row names places (point_undo_of p lay row st es k names places)
  unfolding point_undo_of point_undo_fits
  undo-points z = cases (decided (eqb (fit_number p (state_fits p lay st && leb k (length es) && points_fit names places k)) 0))
      (λ e. let fit = and_right (state_fits p lay st && leb k (length es)) _ ((fit-exact p _).none.0 (eqb-true _ 0 e)).1 in
      rw e (by-points fit (undo_of p lay row st es k) (rw e at z)))
      (λ e. absurd (eqb-false _ 0 e (rw e at z)))

  pub back-points : (name : List ℕ) → (point_back_of p lay row name st es k names places).number ≡ 0 → PointsLeft p lay row names places (point_back_of p lay row name st es k names places)
  unfolding point_back_of back_fits
  back-points name z = cases (decided (eqb (fit_number p (eqb (length name) 8 && state_fits p lay st && leb k (length es) && points_fit names places k)) 0))
      (λ e. let fit = and_right (eqb (length name) 8 && state_fits p lay st && leb k (length es)) _ ((fit-exact p _).none.0 (eqb-true _ 0 e)).1 in
      cases (decided (ltb (slot_of names places name) 16))
      (λ s. rw (e, s) (by-points fit (back_of p lay row (k - place_at places (slot_of names places name)) st es k) (rw (e, s) at z)))
      (λ s. let bad : ◌≡◌ {A = ℕ} 19 0 = rw (e, s) at z in absurd (omega arith)))
      (λ e. absurd (eqb-false _ 0 e (rw e at z)))

  -- with points that are right it is the journal's take-back
  module _ (fit : points_fit names places k ≡ true) where
    same-fits : point_undo_fits p lay row st es k names places ≡ undo_fits p lay row st es k
    unfolding point_undo_fits undo_fits
    same-fits = rw (fit, and-true)

    abbrev Same : Returned → Undone → Type 0
    Same r u = (r.number ≡ u.number) × (r.state ≡ u.state) × (r.count ≡ u.count)

    by-same : (u : Undone) → ((u.number ≡ 0 → ⊥) → (u.state ≡ st) × (u.count ≡ k)) → Same (returned_by u st k names places) u
    by-same u leaves = cases (decided (eqb u.number 0))
        (λ e. let z = eqb-true u.number 0 e in rw (returned-done u st k names places z) (sym z, refl, refl))
        (λ e. let bad = eqb-false u.number 0 e in rw (returned-left u st k names places bad) (refl, sym (leaves bad).0, sym (leaves bad).1))

    left_so : ((undo_of p lay row st es k).number ≡ 0 → ⊥) → ((undo_of p lay row st es k).state ≡ st) × ((undo_of p lay row st es k).count ≡ k)
    left_so bad = let u = undo-refused p lay row st es k bad in (ap (λ (l : Lent). l.state) u, ap (λ (l : Lent). l.count) u)

    unfit : (undo_fits p lay row st es k ≡ 0 → ⊥) → (undo_of p lay row st es k).number ≡ undo_fits p lay row st es k
    unfolding undo_of undo_number
    unfit bad = let n = ne_eqb (undo_fits p lay row st es k) 0 bad in rw (n, n)

    pub as-undo : Same (point_undo_of p lay row st es k names places) (undo_of p lay row st es k)
    unfolding point_undo_of
    as-undo = cases (decided (eqb (undo_fits p lay row st es k) 0))
        (λ z. rw (same-fits, z) (by-same (undo_of p lay row st es k) left_so))
        (λ z. let n = unfit (eqb-false _ 0 z) in let l = left_so (λ e. eqb-false _ 0 z (sym n ∙ e)) in rw (same-fits, z) (sym n, sym l.0, sym l.1))
