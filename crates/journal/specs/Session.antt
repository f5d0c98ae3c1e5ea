-- Lists of kept steps and take-backs from a fresh start, and THE CLAIM of the journal (rules L1 and L4 to L8). Each field stands under its rule.
-- Definitions only.
use Rattle.std.specs.Prelude.{◌≡◌, true, List, [], ◌∷◌, map, ℕ, suc, ◌*◌, ◌≤◌, ◌<◌, length, take, replicate}
use Rattle.plan.specs.Plan.{size}
use Rattle.plan.specs.Check.{Accepted}
use Rattle.event.specs.Event.{Event}
use Rattle.event.specs.Site.{Layout, own, Housed}
use Rattle.central.specs.Central.{is_run}
use Rattle.site.specs.Verdict.{verdict_number}
use Rattle.lists.specs.Bytes.{Bytes}
use Rattle.job.specs.Simulation.{Step, replay, passed, numbers_from, zeros}
use Rattle.job.specs.Claim.{Informed}
use Rattle.journal.specs.declared.Entry.{Entry}
use Rattle.journal.specs.Journal.{step_in, is_set, step_on, entry_of, Kept, keep_of, Undone, undone, undo_of}

-- L4: a move is a step to be kept, by code, node and site, or a take-back
pub data Move : Type 0 where
  keep : ℕ → ℕ → ℕ → Move
  undo : Move

-- L4: all that is lent
pub record Lent : Type 0 where
  pub state : List ℕ
  pub entries : List Entry
  pub count : ℕ

abbrev pub lent : List ℕ → List Entry → ℕ → Lent
lent st es k = record { state = st; entries = es; count = k }

-- L2, L3: what a move leaves
abbrev pub kept_lent : Kept → Lent
kept_lent a = lent a.step.state a.entries a.count

abbrev pub undone_lent : List Entry → Undone → Lent
undone_lent es a = lent a.state es a.count

-- L4: a fresh start: a state of zeros, and entries of any bytes with none in use
abbrev pub begun : List ℕ → Layout → List Entry → Lent
begun p lay es = lent (zeros p lay) es 0

module _ (p : List ℕ) (lay : Layout) (row : ℕ → ℕ) where
  -- L4: a move, passed or refused, and a list of them
  unfoldable pub moved : Lent → Move → Lent
  moved l (keep code node site) = kept_lent (keep_of p lay row l.state l.entries l.count code node site)
  moved l undo = undone_lent l.entries (undo_of p lay row l.state l.entries l.count)

  unfoldable pub session : Lent → List Move → Lent
  session l [] = l
  session l (m ∷ ms) = session (moved l m) ms

  -- L4: the steps that remain
  unfoldable pub remaining : Lent → List Step
  remaining l = map (step_in row) (take l.count l.entries)

  pub record KeptWell (l : Lent) : Type 0 where
    -- L5: the state is the one that the steps that remain give from a fresh start
    pub state : l.state ≡ replay p lay (remaining l)
    pub inside : l.count ≤ length l.entries
    -- L5: each of them passes there, and their events are a run; so they are a list of steps of which every field of demand 3 speaks
    pub passing : numbers_from p lay (zeros p lay) (remaining l) ≡ replicate l.count 0
    pub run : is_run p (passed p lay (remaining l)) ≡ true

  -- L6: a kept step, and the number of its answer
  abbrev pub kept_number : List ℕ → List Entry → ℕ → ℕ → ℕ → ℕ → ℕ
  kept_number st es k code node site = verdict_number (keep_of p lay row st es k code node site).step.verdict

  pub record JournalClaim : Type 0 where
    -- L5: after every list of moves, over entries of any number and any bytes
    pub kept-well : (es : List Entry) (ms : List Move) → KeptWell (session (begun p lay es) ms)
    -- L6: a kept step and its take-back leave the state and the count as they were
    pub undone-step : (st : List ℕ) → Bytes (lay.rows * size p) st → (es : List Entry) (k code node site : ℕ) → kept_number st es k code node site ≡ 0 →
        undo_of p lay row (keep_of p lay row st es k code node site).step.state (keep_of p lay row st es k code node site).entries (keep_of p lay row st es k code node site).count
        ≡ undone 0 st k
    -- L6: a repeat is kept like any step; it changed nothing, and its entry says so
    pub repeated : (st : List ℕ) (es : List Entry) (k code node site : ℕ) → is_set p lay row st code node site ≡ true → kept_number st es k code node site ≡ 0 →
        ((keep_of p lay row st es k code node site).count ≡ suc k) × ((entry_of p lay row st code node site).changed ≡ 0) × ((keep_of p lay row st es k code node site).step.state ≡ st)
    -- L1: an event that is kept turned its bit
    pub event-turns : (st : List ℕ) (es : List Entry) (k code node : ℕ) → kept_number st es k code node 255 ≡ 0 → (entry_of p lay row st code node 255).changed ≡ 1
    -- L7: with a place left, a kept step answers and leaves what a step of the simulation does
    pub room : (st : List ℕ) (es : List Entry) (k code node site : ℕ) → k < length es → (keep_of p lay row st es k code node site).step ≡ step_on p lay row st code node site
    -- L8: every run can be had with a journal that is long enough, and at its end every site has heard it
    pub had : (run : List Event) → is_run p run ≡ true → (n : ℕ) × ((es : List Entry) → n ≤ length es →
        (ms : List Move) × (passed p lay (remaining (session (begun p lay es) ms)) ≡ run)
        × ((q : ℕ) → q < lay.rows → Informed p lay (remaining (session (begun p lay es) ms)) q))

-- L1: every row has a number that names it, and it is not ff
pub record Named (lay : Layout) (row : ℕ → ℕ) : Type 0 where
  pub number : ℕ → ℕ
  pub named : (q : ℕ) → q < lay.rows → row (number q) ≡ q
  pub no-event : (q : ℕ) → q < lay.rows → number q ≡ 255 → ⊥

-- THE CLAIM OF THE JOURNAL (L1, L5 to L8): for every accepted plan, any layout that gives every node a row, and any numbers that name its rows
abbrev pub Journaled : Type 0
Journaled = (p : List ℕ) → Accepted p → (lay : Layout) → Housed p lay → (row : ℕ → ℕ) → Named lay row → JournalClaim p lay row

-- B4: each node its own row, named by its own number
abbrev pub OwnJournaled : Type 0
OwnJournaled = (p : List ℕ) → Accepted p → JournalClaim p (own p) (λ q. q)
