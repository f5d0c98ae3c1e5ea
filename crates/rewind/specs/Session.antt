-- Lists of kept steps, take-backs, namings and goings back from a fresh start, and THE CLAIM of going back (rules M5 to M10). Each field stands under
-- its rule. Definitions only.
use Rattle.std.specs.Prelude.{◌≡◌, true, cond, List, [], ◌∷◌, map, ℕ, suc, ◌<◌, ltb, length, take, set, replicate}
use Rattle.plan.specs.Check.{Accepted}
use Rattle.event.specs.Site.{Layout, own, Housed}
use Rattle.job.specs.Simulation.{replay}
use Rattle.journal.specs.declared.Entry.{Entry}
use Rattle.journal.specs.Journal.{step_in, keep_of, undo_of}
use Rattle.journal.specs.Session.{Lent, lent, kept_lent, begun, KeptWell}
use Rattle.points.specs.Points.{Points, points, name_at, in_use, place_at, points_fit, name_of, dropped}
use Rattle.points.specs.Claim.{point_of, PointsRight}
use Rattle.rewind.specs.Return.{Returned, returned, point_undo_of, point_back_of}

-- M7: a step to be kept, by code, node and site; a take-back; the current place named; a slot freed by the caller; a going back to a name
pub data PointMove : Type 0 where
  to_keep : ℕ → ℕ → ℕ → PointMove
  to_undo : PointMove
  to_name : List ℕ → PointMove
  to_free : ℕ → PointMove
  to_return : List ℕ → PointMove

-- M7: all that is lent
pub record Held : Type 0 where
  pub journal : Lent
  pub marked : Points

abbrev pub held : Lent → Points → Held
held l ps = record { journal = l; marked = ps }

abbrev pub returned_held : List Entry → Returned → Held
returned_held es r = held (lent r.state es r.count) r.left

-- M7: a fresh start: a state of zeros, entries and names of any bytes, and sixteen free slots
abbrev pub fresh_held : List ℕ → Layout → List Entry → List ℕ → Held
fresh_held p lay es names = held (begun p lay es) (points names (replicate 16 0))

module _ (p : List ℕ) (lay : Layout) (row : ℕ → ℕ) where
  -- M5, M6: the calls on all that is lent
  abbrev pub undo_held : Held → Returned
  undo_held h = point_undo_of p lay row h.journal.state h.journal.entries h.journal.count h.marked.names h.marked.places

  abbrev pub back_held : List ℕ → Held → Returned
  back_held name h = point_back_of p lay row name h.journal.state h.journal.entries h.journal.count h.marked.names h.marked.places

  -- M7: a move, passed or refused, and a list of them
  unfoldable pub point_moved : Held → PointMove → Held
  point_moved h (to_keep code node site) = held (kept_lent (keep_of p lay row h.journal.state h.journal.entries h.journal.count code node site)) h.marked
  point_moved h to_undo = returned_held h.journal.entries (undo_held h)
  point_moved h (to_name name) = held h.journal (name_of name h.journal.count h.marked.names h.marked.places).left
  point_moved h (to_free i) = held h.journal (points h.marked.names (set h.marked.places i 0))
  point_moved h (to_return name) = returned_held h.journal.entries (back_held name h)

  unfoldable pub point_session : Held → List PointMove → Held
  point_session h [] = h
  point_session h (m ∷ ms) = point_session (point_moved h m) ms

  pub record HeldWell (h : Held) : Type 0 where
    -- M8: the journal is as L5 says
    pub journal : KeptWell p lay row h.journal
    -- M8: no point is above the count, and no two have one name; so 7 refuses none of them
    pub right : PointsRight h.marked.names h.marked.places h.journal.count
    pub fits : points_fit h.marked.names h.marked.places h.journal.count ≡ true

  -- M9: going back to the point of slot i passes, and gives the state that the steps up to its place give from a fresh start
  abbrev pub Returns : Held → ℕ → Type 0
  Returns h i =
      back_held (name_at h.marked.names i) h
      ≡ returned 0 (replay p lay (map (step_in row) (take (place_at h.marked.places i) h.journal.entries))) (place_at h.marked.places i)
      (dropped (place_at h.marked.places i) h.marked.names h.marked.places)

  -- M10: each name has the point that it had if that is not past the new count, and none otherwise
  abbrev pub PointsLeft : List ℕ → List ℕ → Returned → Type 0
  PointsLeft names places r = (name : List ℕ) →
      point_of r.left.names r.left.places name ≡ cond (ltb (suc r.count) (point_of names places name)) 0 (point_of names places name)

  pub record ReturnClaim : Type 0 where
    -- M8: after every list of moves, over entries of any number and any bytes, and names of any bytes
    pub well : (es : List Entry) (names : List ℕ) → length names ≡ 128 → (ms : List PointMove) → HeldWell (point_session (fresh_held p lay es names) ms)
    -- M9: and then for every point in use
    pub returns : (es : List Entry) (names : List ℕ) → length names ≡ 128 → (ms : List PointMove) (i : ℕ) → i < 16 →
        in_use (point_session (fresh_held p lay es names) ms).marked.places i ≡ true → Returns (point_session (fresh_held p lay es names) ms) i
    -- M5: with points that are right, a take-back answers, and leaves of state and count, what the journal's does
    pub as-undo : (st : List ℕ) (es : List Entry) (k : ℕ) (names places : List ℕ) → points_fit names places k ≡ true →
        ((point_undo_of p lay row st es k names places).number ≡ (undo_of p lay row st es k).number)
        × ((point_undo_of p lay row st es k names places).state ≡ (undo_of p lay row st es k).state)
        × ((point_undo_of p lay row st es k names places).count ≡ (undo_of p lay row st es k).count)
    -- M10: after a take-back and after a going back that passed, on anything that is lent
    pub undo-points : (st : List ℕ) (es : List Entry) (k : ℕ) (names places : List ℕ) → (point_undo_of p lay row st es k names places).number ≡ 0 →
        PointsLeft names places (point_undo_of p lay row st es k names places)
    pub back-points : (name st : List ℕ) (es : List Entry) (k : ℕ) (names places : List ℕ) → (point_back_of p lay row name st es k names places).number ≡ 0 →
        PointsLeft names places (point_back_of p lay row name st es k names places)

-- THE CLAIM OF GOING BACK (M5, M8 to M10): for every accepted plan, any layout that gives every node a row, and any numbers that name its rows
abbrev pub Returning : Type 0
Returning = (p : List ℕ) → Accepted p → (lay : Layout) → Housed p lay → (row : ℕ → ℕ) → ReturnClaim p lay row

-- B4: each node its own row, named by its own number
abbrev pub OwnReturning : Type 0
OwnReturning = (p : List ℕ) → Accepted p → ReturnClaim p (own p) (λ q. q)
