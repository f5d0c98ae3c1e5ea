-- The simulation of a whole job (rules B4 and I): the state, one step, a list of steps, the marks. The paper calls it a rehearsal.
-- Definitions only.
use Rattle.std.specs.Prelude.{Bool, true, cond, ◌&&◌, not, List, [], ◌∷◌, ◌++◌, ℕ, ◌*◌, length, take, drop, replicate, eqb, ltb}
use Rattle.lists.specs.Seq.{table}
use Rattle.plan.specs.Plan.{size}
use Rattle.event.specs.Event.{start, offer, commit, abort, down, Event, at, event_of}
use Rattle.event.specs.Site.{Layout, site_of}
use Rattle.event.specs.Valid.{invalid}
use Rattle.central.specs.Mark.{Mark, idle, running, offered, committed, failed, turned_down, mark_number}
use Rattle.row.specs.Row.{heard, hear}
use Rattle.site.specs.Verdict.{Invalid, Untrue}
use Rattle.site.specs.Verdict.{Verdict}
use Rattle.site.specs.Verdict.{Heard, Refused}
use Rattle.site.specs.Verdict.{verdict_number}
use Rattle.site.specs.Step.{Stepped, step_at}

-- B4: the state is the sites' rows one after another: row q, and the state with another row q
unfoldable pub row_of : List ℕ → List ℕ → ℕ → List ℕ
row_of p st q = take (size p) (drop (q * size p) st)

unfoldable pub with_row : List ℕ → List ℕ → ℕ → List ℕ → List ℕ
with_row p st q row = take (q * size p) st ++ (row ++ drop (size p) (drop (q * size p) st))

-- I0: a step is any numbers, an event that happens (code, node) or a message of it to a site (code, node, site)
pub data Step : Type 0 where
  event : ℕ → ℕ → Step
  message : ℕ → ℕ → ℕ → Step

-- J1: as three numbers, where site ff makes it an event; `row` is the row that the number of another site names
unfoldable pub step_by : (ℕ → ℕ) → ℕ → ℕ → ℕ → Step
step_by row code node site = cond (eqb site 255) (event code node) (message code node (row site))

-- B4: where every node has its own site, its own number does
abbrev pub step_from : ℕ → ℕ → ℕ → Step
step_from code node site = step_by (λ q. q) code node site

-- H0, I2: the state that a step leaves, and its verdict
pub record Simulated : Type 0 where
  pub state : List ℕ
  pub verdict : Verdict

abbrev pub simulated : List ℕ → Verdict → Simulated
simulated st v = record { state = st; verdict = v }

-- H7: the state is rows times nodes bytes
unfoldable pub state_fits : List ℕ → Layout → List ℕ → Bool
state_fits p lay st = eqb (length st) (lay.rows * size p)

-- I2: row q as a site's step left it
abbrev pub row_stepped : List ℕ → List ℕ → ℕ → Stepped → Simulated
row_stepped p st q s = simulated (with_row p st q s.row) s.verdict

-- H1 to H9, I2: an event is refused by the tests, or happens by the step of its site on that site's row
unfoldable pub happen : List ℕ → Layout → List ℕ → ℕ → ℕ → Simulated
happen p lay st code node =
    cond (not (eqb (invalid p (state_fits p lay st) true code node) 0)) (simulated st (Refused (Invalid (invalid p (state_fits p lay st) true code node))))
    (row_stepped p st (site_of p lay (event_of code node)) (step_at p (site_of p lay (event_of code node)) code node (row_of p st (site_of p lay (event_of code node)))))

-- H12, I2: a message of an event that its own site's row has, to site q
unfoldable pub tell : List ℕ → Layout → List ℕ → ℕ → ℕ → ℕ → Simulated
tell p lay st code node q =
    cond (not (eqb (invalid p (state_fits p lay st) (ltb q lay.rows) code node) 0))
    (simulated st (Refused (Invalid (invalid p (state_fits p lay st) (ltb q lay.rows) code node))))
    (cond (not (heard (row_of p st (site_of p lay (event_of code node))) (event_of code node))) (simulated st (Refused Untrue))
    (simulated (with_row p st q (hear (row_of p st q) code node)) Heard))

-- I0: a step of either sort
unfoldable pub simulate : List ℕ → Layout → List ℕ → Step → Simulated
simulate p lay st (event code node) = happen p lay st code node
simulate p lay st (message code node q) = tell p lay st code node q

-- H0: its number, 0 passed
abbrev pub step_number : List ℕ → Layout → List ℕ → Step → ℕ
step_number p lay st t = verdict_number (simulate p lay st t).verdict

-- LISTS OF STEPS, from a state st; `zeros` is where a job begins
-- I0: the state that a list leaves
unfoldable pub replay_from : List ℕ → Layout → List ℕ → List Step → List ℕ
replay_from p lay st [] = st
replay_from p lay st (t ∷ ts) = replay_from p lay (simulate p lay st t).state ts

-- I12: the number of each step
unfoldable pub numbers_from : List ℕ → Layout → List ℕ → List Step → List ℕ
numbers_from p lay st [] = []
numbers_from p lay st (t ∷ ts) = step_number p lay st t ∷ numbers_from p lay (simulate p lay st t).state ts

-- I3: the event that passed in a step with this number
unfoldable pub passed_of : Step → ℕ → List Event
passed_of (event code node) n = cond (eqb n 0) (event_of code node ∷ []) []
passed_of (message code node q) n = []

-- I3: the events of a list
unfoldable pub passed_from : List ℕ → Layout → List ℕ → List Step → List Event
passed_from p lay st [] = []
passed_from p lay st (t ∷ ts) = passed_of t (step_number p lay st t) ++ passed_from p lay (simulate p lay st t).state ts

-- I3: the event of which site q heard in it, by its own step or by a message
unfoldable pub heard_of : List ℕ → Layout → ℕ → Step → ℕ → List Event
heard_of p lay q (event code node) n = cond (eqb n 0 && eqb (site_of p lay (event_of code node)) q) (event_of code node ∷ []) []
heard_of p lay q (message code node r) n = cond (eqb n 0 && eqb r q) (event_of code node ∷ []) []

-- I3: what site q heard in a list
unfoldable pub heard_from : List ℕ → Layout → ℕ → List ℕ → List Step → List Event
heard_from p lay q st [] = []
heard_from p lay q st (t ∷ ts) = heard_of p lay q t (step_number p lay st t) ++ heard_from p lay q (simulate p lay st t).state ts

-- B5, I1: the state where a job begins, and a list from there on
unfoldable pub zeros : List ℕ → Layout → List ℕ
zeros p lay = replicate (lay.rows * size p) 0

unfoldable pub replay : List ℕ → Layout → List Step → List ℕ
replay p lay ts = replay_from p lay (zeros p lay) ts

-- I3: the events of a list from there on, and what site q heard in it
unfoldable pub passed : List ℕ → Layout → List Step → List Event
passed p lay ts = passed_from p lay (zeros p lay) ts

unfoldable pub heard_at : List ℕ → Layout → ℕ → List Step → List Event
heard_at p lay q ts = heard_from p lay q (zeros p lay) ts

-- B6: a node's mark by what is heard, the first that fits
unfoldable pub mark_by : (Event → Bool) → ℕ → Mark
mark_by heard v =
    cond (heard (at commit v)) committed
    (cond (heard (at abort v)) failed
    (cond (heard (at down v)) turned_down
    (cond (heard (at offer v)) offered
    (cond (heard (at start v)) running idle))))

-- B6: by its own site's row
unfoldable pub mark_at : List ℕ → Layout → List ℕ → ℕ → Mark
mark_at p lay st v = mark_by (heard (row_of p st (lay.home v))) v

-- G3: the marks of the end record
unfoldable pub end_marks : List ℕ → Layout → List ℕ → List ℕ
end_marks p lay st = table (λ v. mark_number (mark_at p lay st v)) (size p)
