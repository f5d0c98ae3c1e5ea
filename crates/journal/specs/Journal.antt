-- A step kept in the journal and the last one taken back (rules L1 to L3), each as one value: the answer and every lent byte. For any layout of
-- rows; `row` is the row that a site's number names, its own number where every node has its own site. Definitions only.
use Rattle.std.specs.Prelude.{Bool, true, cond, ◌&&◌, not, List, ℕ, suc, ◌-◌, eqb, ltb, leb, length, get_or, set}
use Rattle.plan.specs.Check.{fit_number}
use Rattle.event.specs.Event.{event_of}
use Rattle.event.specs.Site.{Layout, site_of}
use Rattle.event.specs.Valid.{event_fault}
use Rattle.row.specs.Row.{heard_in, unhear}
use Rattle.site.specs.Verdict.{Invalid}
use Rattle.site.specs.Verdict.{Refused}
use Rattle.site.specs.Verdict.{verdict_number}
use Rattle.job.specs.Simulation.{row_of, with_row, Step, step_by, Simulated, simulated, state_fits, simulate}
use Rattle.journal.specs.declared.Entry.{Entry}

-- L1: what is read past the end of the entries
abbrev pub no_entry : Entry
no_entry = record { code = 0; node = 0; site = 0; changed = 0 }

-- L1: an entry's step
abbrev pub step_in : (ℕ → ℕ) → Entry → Step
step_in row e = step_by row e.code e.node e.site

-- L2: what a kept step leaves: the step's verdict and state, and the journal
pub record Kept : Type 0 where
  pub step : Simulated
  pub entries : List Entry
  pub count : ℕ

abbrev pub kept : Simulated → List Entry → ℕ → Kept
kept s es k = record { step = s; entries = es; count = k }

-- L3: what taking back leaves: its number, the state and the count. The entries stay
pub record Undone : Type 0 where
  pub number : ℕ
  pub state : List ℕ
  pub count : ℕ

abbrev pub undone : ℕ → List ℕ → ℕ → Undone
undone n st k = record { number = n; state = st; count = k }

module _ (p : List ℕ) (lay : Layout) (row : ℕ → ℕ) where
  -- L1: the row in which a step sets its bit: an event's own site's, or that of the site that is told
  unfoldable pub target : ℕ → ℕ → ℕ → ℕ
  target code node site = cond (eqb site 255) (site_of p lay (event_of code node)) (row site)

  -- L1: that bit is set
  unfoldable pub is_set : List ℕ → ℕ → ℕ → ℕ → Bool
  is_set st code node site = heard_in (row_of p st (target code node site)) code node

  -- L1: the entry of a step that passed on the state st
  unfoldable pub entry_of : List ℕ → ℕ → ℕ → ℕ → Entry
  entry_of st code node site = record { code = code; node = node; site = site; changed = cond (is_set st code node site) 0 1 }

  -- L2: the step itself
  unfoldable pub step_on : List ℕ → ℕ → ℕ → ℕ → Simulated
  step_on st code node site = simulate p lay st (step_by row code node site)

  -- L2: 1 to 6; 7 for the state's length, a count above the number of entries, and a full journal
  unfoldable pub keep_fits : List ℕ → List Entry → ℕ → ℕ
  keep_fits st es k = fit_number p (state_fits p lay st && ltb k (length es))

  -- L2: a step that passes is stored at the count, which is then one more; any other leaves the journal
  unfoldable pub kept_if : ℕ → Simulated → List Entry → ℕ → Entry → Kept
  kept_if n s es k e = cond (eqb n 0) (kept s (set es k e) (suc k)) (kept s es k)

  unfoldable pub keep_of : List ℕ → List Entry → ℕ → ℕ → ℕ → ℕ → Kept
  keep_of st es k code node site =
      cond (not (eqb (keep_fits st es k) 0)) (kept (simulated st (Refused (Invalid (keep_fits st es k)))) es k)
      (kept_if (verdict_number (step_on st code node site).verdict) (step_on st code node site) es k (entry_of st code node site))

  -- L3: 8 and 9 of an entry
  unfoldable pub sited : ℕ → Bool
  sited site = cond (eqb site 255) true (ltb (row site) lay.rows)

  unfoldable pub entry_fault : Entry → ℕ
  entry_fault e = event_fault p (sited e.site) e.code e.node

  -- L3: 1 to 6; 7 for the state's length and a count above the number of entries
  unfoldable pub undo_fits : List ℕ → List Entry → ℕ → ℕ
  undo_fits st es k = fit_number p (state_fits p lay st && leb k (length es))

  -- L3: then 16 where no step is left, then 8 and 9 of the last entry
  unfoldable pub undo_number : List ℕ → List Entry → ℕ → ℕ
  undo_number st es k =
      cond (not (eqb (undo_fits st es k) 0)) (undo_fits st es k)
      (cond (eqb k 0) 16 (entry_fault (get_or es (k - 1) no_entry)))

  -- L3: the bit is cleared where the entry says that its step set it: changed is not 0
  unfoldable pub taken_back : List ℕ → Entry → List ℕ
  taken_back st e =
      cond (eqb e.changed 0) st
      (with_row p st (target e.code e.node e.site) (unhear (row_of p st (target e.code e.node e.site)) e.code e.node))

  unfoldable pub undo_of : List ℕ → List Entry → ℕ → Undone
  undo_of st es k =
      cond (not (eqb (undo_number st es k) 0)) (undone (undo_number st es k) st k)
      (undone 0 (taken_back st (get_or es (k - 1) no_entry)) (k - 1))
