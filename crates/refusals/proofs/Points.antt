-- The calls with points, for any layout of rows: refused they leave all, and with right lengths and points they get none of 1 to 7. Assumes nothing.
use mathlib.Core.Path.{◌≡◌, refl}
use mathlib.Core.Bool.{true, cond, not}
use mathlib.Core.List.{List}
use Prim.Native.Nat.{ℕ, zero, suc, ◌*◌, ◌-◌, ◌≤◌, ◌<◌}
use native.Mathlib.Omega.{arith}
use borrow.Author.Tests.{eq-eqb, le-leb, lt-ltb, not-true}
use lib.Dec.{eqb, ltb}
use lib.ListN.{length, set}
use lib.Seq.{sets}
use Rattle.lists.proofs.Logic.{clash, and-join}
use Rattle.plan.proofs.Main.{fit-exact}
use Rattle.event.specs.Site.{Layout}
use Rattle.layout.specs.Layout.{Laid}
use Rattle.journal.specs.declared.Entry.{Entry}
use Rattle.journal.specs.Journal.{sited, entry_fault, Undone, undo_of}
use Rattle.points.specs.Points.{points, place_at, slot_of, free_slot, points_fit, name_fits, Naming, naming, name_of, dropped}
use Rattle.points.specs.Claim.{PointsRight}
use Rattle.points.proofs.Main.{points-claim}
use Rattle.rewind.specs.Return.{Returned, returned, returned_by, point_undo_fits, point_undo_of, back_of, back_fits, point_back_of}
use Rattle.rewind.specs.Rewound.{last_of, first_fault}
use Rattle.rewind.proofs.BackLaws.{back-dry}
use Rattle.refusals.specs.Claim.{Later}
use Rattle.refusals.proofs.ChoiceLaws.{choice, Leaving, refusal}
use Rattle.refusals.proofs.PassNumbers.{none-later, later}
use Rattle.refusals.proofs.Passes.{fault-later}
use Rattle.refusals.proofs.Simulated.{laid-fits}
use Rattle.refusals.proofs.Journal.{undo-later}

-- A NAMING is a choice of four
module _ (name : List ℕ) (k : ℕ) (ns ps : List ℕ) where
  module _ (P : Naming → Type 0) (unfit : not (name_fits name k ns ps) ≡ true → P (naming 7 ns ps)) (full : P (naming 20 ns ps)) (done : (names places : List ℕ) → P (naming 0 names places)) where
    naming-choice : P (name_of name k ns ps)
    unfolding name_of
    naming-choice =
        choice P (not (name_fits name k ns ps)) _ _ unfit
        (λ e. choice P (ltb (slot_of ns ps name) 16) _ _ (λ f. done ns (set ps (slot_of ns ps name) (suc k)))
        (λ f. choice P (ltb (free_slot ps) 16) _ _ (λ g. done (sets ns (8 * free_slot ps) name) (set ps (free_slot ps) (suc k))) (λ g. full)))

  pub name-leaves : ((name_of name k ns ps).number ≡ 0 → ⊥) → (name_of name k ns ps).left ≡ points ns ps
  name-leaves = naming-choice (Leaving (λ (r : Naming). r.number) (λ r. r.left ≡ points ns ps)) (λ e z. refl) (λ z. refl) (λ names places z. absurd (z refl))

  pub name-later : length name ≡ 8 → k < 18446744073709551615 → PointsRight ns ps k → Later (name_of name k ns ps).number
  unfolding name_fits
  name-later long l right = naming-choice (λ r. Later r.number)
      (λ e. clash _ (and-join _ _ (and-join _ _ (eq-eqb (length name) 8 long) (lt-ltb k 18446744073709551615 l)) ((points-claim.exact ns ps k).1 right)) (not-true _ e))
      (later 20 refl) (λ names places. none-later)

-- A TAKE-BACK AND A GOING BACK
module _ (st : List ℕ) (k : ℕ) (ns ps : List ℕ) where
  abbrev pub left : Returned → Type 0
  left r = (r.state ≡ st) × (r.count ≡ k) × (r.left ≡ points ns ps)

  abbrev number_of : Returned → ℕ
  number_of r = r.number

  by-leaves : (u : Undone) → Leaving number_of left (returned_by u st k ns ps)
  unfolding returned_by
  by-leaves u = choice (Leaving number_of left) (eqb u.number 0) (returned 0 u.state u.count (dropped u.count ns ps)) (returned u.number st k (points ns ps))
      (λ e z. absurd (z refl)) (λ e z. (refl, refl, refl))

  by-later : (u : Undone) → Later u.number → Later (returned_by u st k ns ps).number
  unfolding returned_by
  by-later u l = choice (λ (r : Returned). Later r.number) (eqb u.number 0) (returned 0 u.state u.count (dropped u.count ns ps)) (returned u.number st k (points ns ps))
      (λ e. none-later) (λ e. l)

  module _ (p : List ℕ) (lay : Layout) (row : ℕ → ℕ) where
    pub undo-leaves : (es : List Entry) → Leaving number_of left (point_undo_of p lay row st es k ns ps)
    unfolding point_undo_of
    undo-leaves es =
        let n = point_undo_fits p lay row st es k ns ps in
        let u = undo_of p lay row st es k in
        refusal number_of left n (returned n st k (points ns ps)) (returned_by u st k ns ps) (refl, refl, refl) (λ e. by-leaves u)

    pub back-leaves : (name : List ℕ) (es : List Entry) → Leaving number_of left (point_back_of p lay row name st es k ns ps)
    unfolding point_back_of
    back-leaves name es =
        let n = back_fits p lay row name st es k ns ps in
        let u = back_of p lay row (k - place_at ps (slot_of ns ps name)) st es k in
        refusal number_of left n (returned n st k (points ns ps)) (cond (not (ltb (slot_of ns ps name) 16)) (returned 19 st k (points ns ps)) (returned_by u st k ns ps)) (refl, refl, refl)
        (λ e. choice (Leaving number_of left) (not (ltb (slot_of ns ps name) 16)) (returned 19 st k (points ns ps)) (returned_by u st k ns ps) (λ f z. (refl, refl, refl)) (λ f. by-leaves u))

module _ (p : List ℕ) (lay : Layout) (row : ℕ → ℕ) (st : List ℕ) (laid : Laid p lay st) (es : List Entry) (k : ℕ) (within : k ≤ length es) (ns ps : List ℕ) (right : PointsRight ns ps k) where
  points-right : points_fit ns ps k ≡ true
  points-right = (points-claim.exact ns ps k).1 right

  pub point-undo-later : Later (point_undo_of p lay row st es k ns ps).number
  unfolding point_undo_of point_undo_fits
  point-undo-later =
      let fits = and-join _ _ (and-join _ _ (laid-fits p lay st laid) (le-leb k (length es) within)) points-right in
      rw ((fit-exact p _).none.1 (laid.plan, fits)) (by-later st k ns ps (undo_of p lay row st es k) (undo-later p lay row st laid es k within))

  -- the first number met is one of an entry
  first-later : (n m : ℕ) → Later (first_fault p lay row es n m)
  unfolding first_fault entry_fault
  first-later zero m = none-later
  first-later (suc n) m =
      let e : Entry = last_of es m in
      choice Later (eqb (entry_fault p lay row e) 0) (first_fault p lay row es n (m - 1)) (entry_fault p lay row e)
      (λ z. first-later n (m - 1)) (λ z. fault-later p (sited p lay row e.site) e.code e.node)

  back-later : (n : ℕ) → n ≤ k → Later (back_of p lay row n st es k).number
  back-later n l = rw (back-dry p lay row n st es k laid l within).0 (first-later n k)

  pub point-back-later : (name : List ℕ) → length name ≡ 8 → Later (point_back_of p lay row name st es k ns ps).number
  unfolding point_back_of back_fits
  point-back-later name eight =
      let fits = and-join _ _ (and-join _ _ (and-join _ _ (eq-eqb (length name) 8 eight) (laid-fits p lay st laid)) (le-leb k (length es) within)) points-right in
      let n : ℕ = k - place_at ps (slot_of ns ps name) in
      let u : Undone = back_of p lay row n st es k in
      rw ((fit-exact p _).none.1 (laid.plan, fits))
      (choice (λ (r : Returned). Later r.number) (not (ltb (slot_of ns ps name) 16)) (returned 19 st k (points ns ps)) (returned_by u st k ns ps)
      (λ f. later 19 refl) (λ f. by-later st k ns ps u (back-later n (omega arith))))
