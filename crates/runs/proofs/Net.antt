-- The sites as tests on events: `rows q e` says that site q has heard e. What a step does to them, and which events pass in a list of steps.
-- Definitions only.
use mathlib.Core.Bool.{Bool, false, not, ◌&&◌, ◌||◌, cond}
use mathlib.Core.List.{List, [], ◌∷◌, ◌++◌}
use Prim.Native.Nat.{ℕ}
use lib.Dec.{eqb, ltb}
use Rattle.event.specs.Event.{Event, same, applies}
use Rattle.event.specs.Site.{Layout, site_of}
use Rattle.guard.specs.Guard.{guard, holds, barred}

pub data Move : Type 0 where
  occur : Event → Move
  relay : Event → ℕ → Move

unfoldable pub learn : (ℕ → Event → Bool) → ℕ → Event → ℕ → Event → Bool
learn rows q e r f = (eqb q r && same e f) || rows r f

unfoldable pub passes : List ℕ → Layout → (ℕ → Event → Bool) → Event → Bool
passes p lay rows e = applies p e && not (barred p (rows (site_of p lay e)) e) && holds (rows (site_of p lay e)) (guard p e)

unfoldable pub relayed : List ℕ → Layout → (ℕ → Event → Bool) → Event → ℕ → Bool
relayed p lay rows e q = applies p e && ltb q lay.rows && rows (site_of p lay e) e

unfoldable pub moved : List ℕ → Layout → (ℕ → Event → Bool) → Move → ℕ → Event → Bool
moved p lay rows (occur e) = cond (passes p lay rows e) (learn rows (site_of p lay e) e) rows
moved p lay rows (relay e q) = cond (relayed p lay rows e q) (learn rows q e) rows

unfoldable pub passed_by : List ℕ → Layout → (ℕ → Event → Bool) → Move → List Event
passed_by p lay rows (occur e) = cond (passes p lay rows e) (e ∷ []) []
passed_by p lay rows (relay e q) = []

-- the events that pass in a list of steps, in order
unfoldable pub passed_in : List ℕ → Layout → (ℕ → Event → Bool) → List Move → List Event
passed_in p lay rows [] = []
passed_in p lay rows (t ∷ ts) = passed_by p lay rows t ++ passed_in p lay (moved p lay rows t) ts

unfoldable pub moved_all : List ℕ → Layout → (ℕ → Event → Bool) → List Move → ℕ → Event → Bool
moved_all p lay rows [] = rows
moved_all p lay rows (t ∷ ts) = moved_all p lay (moved p lay rows t) ts

unfoldable pub silence : ℕ → Event → Bool
silence q e = false
