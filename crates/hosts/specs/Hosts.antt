-- Sites on hosts of their own (rules I13 and I14). Each site keeps its row, nobody has the whole state, and a row changes by the site's own step
-- and hear alone. What a host has to see to, and THE CLAIM: the simulation then covers the hosts. Definitions only.
use Rattle.std.specs.Prelude.{◌≡◌, Bool, true, cond, ◌&&◌, List, [], ◌∷◌, ◌++◌, map, ℕ, ◌<◌, eqb, ltb, replicate}
use Rattle.lists.specs.Seq.{table}
use Rattle.plan.specs.Plan.{size}
use Rattle.plan.specs.Check.{Accepted}
use Rattle.event.specs.Event.{code_number, is_code, Event, event_of, among, applies}
use Rattle.event.specs.Site.{Layout, Housed, site_of}
use Rattle.central.specs.Mark.{Mark, mark_number}
use Rattle.central.specs.Central.{update, fresh, is_run, reaches}
use Rattle.pass.specs.Pass.{pass}
use Rattle.row.specs.Row.{heard}
use Rattle.site.specs.Verdict.{verdict_number}
use Rattle.site.specs.Step.{step_of, hear_of}
use Rattle.lists.specs.Bytes.{Bytes}
use Rattle.runs.specs.Agree.{Agrees}
use Rattle.job.specs.Simulation.{row_of, Step, event, message, numbers_from, passed_of, zeros, replay, passed, mark_by}

-- B4: the rows that the sites keep, by site number
abbrev pub Rows : Type 0
Rows = ℕ → List ℕ

-- B5: fresh rows
unfoldable pub fresh_rows : List ℕ → Rows
fresh_rows p q = replicate (size p) 0

-- H16, H17: what hosts do, with any numbers (code, node, site): try an event on the row of a site, or send a site a message of an event
pub data Action : Type 0 where
  try : ℕ → ℕ → ℕ → Action
  send : ℕ → ℕ → ℕ → Action

-- H0: the numbers of the answers, 0 passed, of a step and of a message
unfoldable pub try_number : List ℕ → ℕ → ℕ → List ℕ → ℕ
try_number p code node row = verdict_number (step_of p code node row).verdict

unfoldable pub send_number : List ℕ → ℕ → ℕ → List ℕ → ℕ
send_number p code node row = verdict_number (hear_of p code node row).verdict

unfoldable pub action_number : List ℕ → Rows → Action → ℕ
action_number p rows (try code node q) = try_number p code node (rows q)
action_number p rows (send code node q) = send_number p code node (rows q)

-- H16, H17: the rows that an action leaves; those of other sites stay
unfoldable pub acted : List ℕ → Rows → Action → Rows
acted p rows (try code node q) = update rows q (step_of p code node (rows q)).row
acted p rows (send code node q) = update rows q (hear_of p code node (rows q)).row

-- I14: the step of a simulation that an action stands for
unfoldable pub step_for : Action → Step
step_for (try code node q) = event code node
step_for (send code node q) = message code node q

-- I13: LISTS OF ACTIONS, from any rows: the rows afterwards, each action's number, and the events that passed
unfoldable pub rows_from : List ℕ → Rows → List Action → Rows
rows_from p rows [] = rows
rows_from p rows (x ∷ xs) = rows_from p (acted p rows x) xs

unfoldable pub action_numbers_from : List ℕ → Rows → List Action → List ℕ
action_numbers_from p rows [] = []
action_numbers_from p rows (x ∷ xs) = action_number p rows x ∷ action_numbers_from p (acted p rows x) xs

unfoldable pub happened_from : List ℕ → Rows → List Action → List Event
happened_from p rows [] = []
happened_from p rows (x ∷ xs) = passed_of (step_for x) (action_number p rows x) ++ happened_from p (acted p rows x) xs

-- I13: from fresh rows
unfoldable pub rows_after : List ℕ → List Action → Rows
rows_after p xs = rows_from p (fresh_rows p) xs

unfoldable pub action_numbers : List ℕ → List Action → List ℕ
action_numbers p xs = action_numbers_from p (fresh_rows p) xs

unfoldable pub happened : List ℕ → List Action → List Event
happened p xs = happened_from p (fresh_rows p) xs

-- H8, H9: a code, and a node of the plan to which it applies
unfoldable pub is_event : List ℕ → ℕ → ℕ → Bool
is_event p code node = is_code code && applies p (event_of code node)

-- I13: A HOST'S TWO RULES, where es have happened. An event is tried on the row of its own site; and a site, one of the layout, is told of events
-- that have happened and of no other. What is no event, a site refuses anyway.
unfoldable pub keeps : List ℕ → Layout → List Event → Action → Bool
keeps p lay es (try code node q) = cond (is_event p code node) (eqb q (site_of p lay (event_of code node))) true
keeps p lay es (send code node q) = ltb q lay.rows && cond (is_event p code node) (among es (event_of code node)) true

-- I13: each action of a list keeps them, after those before it
unfoldable pub keeps_from : List ℕ → Layout → List Event → Rows → List Action → Bool
keeps_from p lay es rows [] = true
keeps_from p lay es rows (x ∷ xs) = keeps p lay es x && keeps_from p lay (es ++ passed_of (step_for x) (action_number p rows x)) (acted p rows x) xs

unfoldable pub keeps_rules : List ℕ → Layout → List Action → Bool
keeps_rules p lay xs = keeps_from p lay [] (fresh_rows p) xs

-- I14: the simulation covers a list of actions: each site has the row, each action the number, and the list the events of the same list of steps
pub record Covered (p : List ℕ) (lay : Layout) (xs : List Action) : Type 0 where
  pub rows : (q : ℕ) → q < lay.rows → rows_after p xs q ≡ row_of p (replay p lay (map step_for xs)) q
  pub numbers : action_numbers p xs ≡ numbers_from p lay (zeros p lay) (map step_for xs)
  pub events : happened p xs ≡ passed p lay (map step_for xs)

-- B6: a node's mark, by the row that its own site keeps
unfoldable pub host_mark : Layout → Rows → ℕ → Mark
host_mark lay rows v = mark_by (heard (rows (lay.home v))) v

unfoldable pub host_marks : List ℕ → Layout → Rows → List ℕ
host_marks p lay rows = table (λ v. mark_number (host_mark lay rows v)) (size p)

-- I8: it is over: every site has heard all that happened, and no event passes at its site any more
pub record HostsOver (p : List ℕ) (lay : Layout) (xs : List Action) : Type 0 where
  pub informed : (q : ℕ) → q < lay.rows → (e : Event) → among (happened p xs) e ≡ true → heard (rows_after p xs q) e ≡ true
  pub still : (e : Event) → try_number p (code_number e.code) e.node (rows_after p xs (site_of p lay e)) ≡ 0 → ⊥

-- I14: actions that keep the rules, with the events and the rows of a list of steps
pub record Followed (p : List ℕ) (lay : Layout) (ts : List Step) : Type 0 where
  pub actions : List Action
  pub kept : keeps_rules p lay actions ≡ true
  pub events : happened p actions ≡ passed p lay ts
  pub rows : (q : ℕ) → q < lay.rows → rows_after p actions q ≡ row_of p (replay p lay ts) q

-- I14: WHAT THEN HOLDS
pub record HostClaim (p : List ℕ) (lay : Layout) : Type 0 where
  -- the simulation covers the hosts, so that all of the main claim (crate job) is about their rows
  pub covered : (xs : List Action) → keeps_rules p lay xs ≡ true → Covered p lay xs
  -- in plain words: what happened is a run; the marks are the run's; and when it is over they are the pass's, for agreeing answers
  pub run : (xs : List Action) → keeps_rules p lay xs ≡ true → is_run p (happened p xs) ≡ true
  pub mark : (xs : List Action) → keeps_rules p lay xs ≡ true → (v : ℕ) → v < size p → host_mark lay (rows_after p xs) v ≡ (reaches fresh (happened p xs)).mark v
  pub same-marks : (xs : List Action) → keeps_rules p lay xs ≡ true → HostsOver p lay xs →
      (a : List ℕ) → Bytes (size p) a → Agrees p (among (happened p xs)) a → pass p a ≡ record { number = 0; marks = host_marks p lay (rows_after p xs) }
  -- the rules shut nothing out: hosts that keep them can follow every list of steps, and every run goes on to one that is over
  pub follows : (ts : List Step) → Followed p lay ts
  pub ends : (es : List Event) → is_run p es ≡ true →
      (fs : List Event) × (xs : List Action) × (keeps_rules p lay xs ≡ true) × (happened p xs ≡ es ++ fs) × HostsOver p lay xs

-- THE CLAIM (I14), for every accepted plan, with any layout that gives every node a row
abbrev pub HostsCovered : Type 0
HostsCovered = (p : List ℕ) → Accepted p → (lay : Layout) → Housed p lay → HostClaim p lay
