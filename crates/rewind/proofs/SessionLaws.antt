-- Every list of moves with points (rules M7 to M9): the journal holds steps that passed from a fresh start, and the points are right. Assumes nothing.
use mathlib.Core.Path.{◌≡◌, refl, ◌∙◌, ap}
use mathlib.Core.Bool.{true}
use mathlib.Core.List.{List, [], ◌∷◌}
use Prim.Native.Nat.{ℕ, zero, suc, ◌*◌, ◌-◌, ◌≤◌, ◌<◌}
use native.Mathlib.Omega.{arith}
use lib.Dec.{eqb, ltb}
use lib.ListN.{length, drop, length-drop}
use lib.Seq.{length-take-le}
use borrow.Author.Tests.{eq-eqb, eqb-true, eqb-false, le-leb, lt-ltb}
use Rattle.lists.proofs.Logic.{cases, decided, and-join}
use Rattle.plan.specs.Plan.{size}
use Rattle.plan.specs.Check.{Accepted}
use Rattle.plan.proofs.Main.{fit-exact}
use Rattle.event.specs.Site.{Layout}
use Rattle.site.specs.Verdict.{verdict_number}
use Rattle.job.specs.Simulation.{state_fits}
use Rattle.job.specs.Claim.{Claim}
use Rattle.journal.specs.declared.Entry.{Entry}
use Rattle.journal.specs.Journal.{Undone, undone, undo_of, keep_fits, kept_if, keep_of, step_on}
use Rattle.journal.specs.Session.{lent, undone_lent, moved}
use Rattle.journal.proofs.SessionLaws.{steps_to, before, Sound, begun-sound, keep-sound, undo-is, sound_back, undo-sound, sound-well}
use Rattle.points.specs.Points.{points, name_at, in_use, place_at, slot_of, dropped}
use Rattle.points.specs.Claim.{PointsRight}
use Rattle.points.proofs.RightLaws.{own-slot}
use Rattle.points.proofs.Main.{points-claim}
use Rattle.rewind.specs.Return.{returned, returned_by, point_undo_fits, point_undo_of, back_of, back_fits, point_back_of}
use Rattle.rewind.specs.Session.{PointMove, to_keep, to_undo, to_name, to_free, to_return, Held, held, returned_held, fresh_held, point_moved, point_session, HeldWell, Returns}
use Rattle.rewind.proofs.CallLaws.{returned-done, returned-left}

-- a kept step never counts down
keep-grows : (p : List ℕ) (lay : Layout) (row : ℕ → ℕ) (st : List ℕ) (es : List Entry) (k code node site : ℕ) → k ≤ (keep_of p lay row st es k code node site).count
unfolding keep_of kept_if
keep-grows p lay row st es k code node site = cases (decided (eqb (keep_fits p lay row st es k) 0))
    (λ z. cases (decided (eqb (verdict_number (step_on p lay row st code node site).verdict) 0)) (λ v. rw (z, v) (omega arith)) (λ v. rw (z, v) (omega arith)))
    (λ z. rw z (omega arith))

module _ (p : List ℕ) (lay : Layout) (row : ℕ → ℕ) where
  -- all that is lent is as the moves leave it
  record Right (h : Held) : Type 0 where
    sound : Sound p lay row h.journal
    right : PointsRight h.marked.names h.marked.places h.journal.count

  module _ (claim : Claim p lay) where
    -- GOING BACK n steps gives the state before them
    back_is : (n : ℕ) (st : List ℕ) (es : List Entry) (k : ℕ) → Sound p lay row (lent st es k) → n ≤ k → back_of p lay row n st es k ≡ undone 0 (before p lay row es (k - n)) (k - n)
    unfolding back_of
    back_is zero st es k sound l = let e : k - 0 ≡ k = omega arith in rw (e, sound.state)
    back_is (suc n) st es zero sound l = absurd (omega arith)
    back_is (suc n) st es (suc k) sound l =
        let e : suc k - suc n ≡ k - n = omega arith in
        rw (undo-is p lay row claim st es k sound, e) (back_is n (before p lay row es k) es k (sound_back p lay row claim st es (suc k) k (omega arith) sound) (omega arith))

    module _ (st : List ℕ) (es : List Entry) (k : ℕ) (names places : List ℕ) (sound : Sound p lay row (lent st es k)) (right : PointsRight names places k) where
      -- what was taken back leaves all right, if the journal is sound there
      by_right : (u : Undone) → (u.number ≡ 0 → Sound p lay row (undone_lent es u)) → Right (returned_held es (returned_by u st k names places))
      by_right u s = cases (decided (eqb u.number 0))
          (λ z. let n = eqb-true u.number 0 z in
          rw (returned-done u st k names places n) (record { sound = s n; right = points-claim.dropping_keeps names places k u.count right }))
          (λ z. rw (returned-left u st k names places (eqb-false u.number 0 z)) (record { sound = sound; right = right }))

      undo-right : Right (returned_held es (point_undo_of p lay row st es k names places))
      unfolding point_undo_of
      undo-right = cases (decided (eqb (point_undo_fits p lay row st es k names places) 0))
          (λ z. rw z (by_right (undo_of p lay row st es k) (λ n. undo-sound p lay row claim st es k sound)))
          (λ z. rw z (record { sound = sound; right = right }))

      back-sound : (n : ℕ) → n ≤ k → Sound p lay row (undone_lent es (back_of p lay row n st es k))
      back-sound n l = rw (back_is n st es k sound l) (sound_back p lay row claim st es k (k - n) (omega arith) sound)

      back-right : (name : List ℕ) → Right (returned_held es (point_back_of p lay row name st es k names places))
      unfolding point_back_of
      back-right name =
          let n : ℕ = k - place_at places (slot_of names places name) in
          cases (decided (eqb (back_fits p lay row name st es k names places) 0))
          (λ z. cases (decided (ltb (slot_of names places name) 16))
          (λ s. rw (z, s) (by_right (back_of p lay row n st es k) (λ e. back-sound n (omega arith))))
          (λ s. rw (z, s) (record { sound = sound; right = right })))
          (λ z. rw z (record { sound = sound; right = right }))

      keep-right : (code node site : ℕ) → Right (point_moved p lay row (held (lent st es k) (points names places)) (to_keep code node site))
      unfolding point_moved moved
      keep-right code node site = record {
        sound = keep-sound p lay row claim st es k code node site sound;
        right = points-claim.growing-keeps names places k (keep_of p lay row st es k code node site).count (keep-grows p lay row st es k code node site) right;
      }

      -- a point in use can be gone back to
      module _ (ok : Accepted p) (i : ℕ) (l : i < 16) (used : in_use places i ≡ true) where
        abbrev place : ℕ
        place = place_at places i

        long : length (name_at names i) ≡ 8
        long = let n = right.names-long in length-take-le 8 (drop (8 * i) names) (omega (arith, length-drop (8 * i) names))

        state-long : length st ≡ lay.rows * size p
        unfolding before
        state-long = ap length sound.state ∙ (claim.state (steps_to p lay row es k)).long

        fits : back_fits p lay row (name_at names i) st es k names places ≡ 0
        unfolding back_fits state_fits
        fits = (fit-exact p _).none.1 (ok, and-join _ _ (and-join _ _ (and-join _ _ (eq-eqb (length (name_at names i)) 8 long) (eq-eqb (length st) (lay.rows * size p) state-long)) (le-leb k (length es) sound.inside)) ((points-claim.exact names places k).1 right))

        returns-there : point_back_of p lay row (name_at names i) st es k names places ≡ returned 0 (before p lay row es place) place (dropped place names places)
        unfolding point_back_of
        returns-there =
            let w : place ≤ k = right.within i l used in
            let e : k - (k - place) ≡ place = omega arith in
            let b : back_of p lay row (k - place) st es k ≡ undone 0 (before p lay row es place) place = back_is (k - place) st es k sound (omega arith) ∙ rw e in
            rw (fits, own-slot names places right.apart i l used, lt-ltb i 16 l, b) (returned-done (undone 0 (before p lay row es place) place) st k names places refl)

    -- LISTS OF MOVES
    moved-right : (h : Held) → Right h → (m : PointMove) → Right (point_moved p lay row h m)
    unfolding point_moved
    moved-right h r (to_keep code node site) = keep-right h.journal.state h.journal.entries h.journal.count h.marked.names h.marked.places r.sound r.right code node site
    moved-right h r to_undo = undo-right h.journal.state h.journal.entries h.journal.count h.marked.names h.marked.places r.sound r.right
    moved-right h r (to_name name) = record { sound = r.sound; right = points-claim.naming-keeps name h.journal.count h.marked.names h.marked.places r.right }
    moved-right h r (to_free i) = record { sound = r.sound; right = points-claim.freeing_keeps h.marked.names h.marked.places h.journal.count i r.right }
    moved-right h r (to_return name) = back-right h.journal.state h.journal.entries h.journal.count h.marked.names h.marked.places r.sound r.right name

    session-right : (ms : List PointMove) (h : Held) → Right h → Right (point_session p lay row h ms)
    unfolding point_session
    session-right [] h r = r
    session-right (m ∷ ms) h r = session-right ms (point_moved p lay row h m) (moved-right h r m)

    fresh-right : (es : List Entry) (names : List ℕ) → length names ≡ 128 → Right (fresh_held p lay es names)
    fresh-right es names long = record { sound = begun-sound p lay row es; right = points-claim.fresh names 0 long }

    module _ (es : List Entry) (names : List ℕ) (long : length names ≡ 128) (ms : List PointMove) where
      abbrev after : Held
      after = point_session p lay row (fresh_held p lay es names) ms

      right-after : Right after
      right-after = session-right ms (fresh_held p lay es names) (fresh-right es names long)

      pub all-well : HeldWell p lay row after
      all-well = record {
        journal = sound-well p lay row claim after.journal right-after.sound;
        right = right-after.right;
        fits = (points-claim.exact after.marked.names after.marked.places after.journal.count).1 right-after.right;
      }

      pub all-return : Accepted p → (i : ℕ) → i < 16 → in_use after.marked.places i ≡ true → Returns p lay row after i
      unfolding before steps_to
      all-return ok i l u =
          returns-there after.journal.state after.journal.entries after.journal.count after.marked.names after.marked.places right-after.sound right-after.right ok i l u
