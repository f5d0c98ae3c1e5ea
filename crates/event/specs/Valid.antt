-- The tests with which every call on an event begins (rules H1 to H9). Definitions only.
use Rattle.std.specs.Prelude.{◌≡◌, Bool, true, cond, ◌&&◌, not, List, ℕ, ◌≤◌, ◌<◌, eqb}
use Rattle.plan.specs.Plan.{size}
use Rattle.plan.specs.Check.{fit_number, Accepted}
use Rattle.event.specs.Event.{event_of, known, applies}

-- H8, H9: what is wrong with the event itself: 8 the code, the node or, where a site is named, the site (`sited` says it is in the plan), 9 an
-- event that does not apply, 0 nothing
unfoldable pub event_fault : List ℕ → Bool → ℕ → ℕ → ℕ
event_fault p sited code node = cond (not (known p code node && sited)) 8 (cond (not (applies p (event_of code node))) 9 0)

-- H0: the number of the first test that fails, and 0 where none does: 1 to 6 the plan, 7 the lent lengths (`fits` says they are right), 8, 9 the event
unfoldable pub invalid : List ℕ → Bool → Bool → ℕ → ℕ → ℕ
invalid p fits sited code node = cond (not (eqb (fit_number p fits) 0)) (fit_number p fits) (event_fault p sited code node)

-- H1 to H9: what holds where none fails
pub record Valid (p : List ℕ) (fits sited : Bool) (code node : ℕ) : Type 0 where
  pub plan : Accepted p
  pub long : fits ≡ true
  pub placed : sited ≡ true
  pub low : 1 ≤ code
  pub high : code ≤ 8
  pub node_in : node < size p
  pub applied : applies p (event_of code node) ≡ true
