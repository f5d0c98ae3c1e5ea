-- What a kept step and a take-back promise without seeing the entries. Contracts cite this. Definitions only.
use Rattle.std.specs.Prelude.{◌≡◌, List, ℕ, ◌-◌, length, get_or, set}
use Rattle.site.specs.Verdict.{Verdict}
use Rattle.job.specs.Simulation.{simulated}
use Rattle.journal.specs.declared.Entry.{Entry}
use Rattle.journal.specs.Journal.{no_entry, kept, undone}
use Rattle.desks.specs.Calls.{desk_keep_of, desk_undo_of}

-- L2: a step whose entry e goes to place `at` of len entries, whatever these are; past their end nothing is stored
abbrev pub DeskKeeps : List ℕ → List ℕ → ℕ → ℕ → ℕ → ℕ → ℕ → Verdict → ℕ → Entry → List ℕ → ℕ → Type 0
DeskKeeps p st len k code node desk v at e st' k' =
    (es : List Entry) → length es ≡ len → desk_keep_of p st es k code node desk ≡ kept (simulated st' v) (set es at e) k'

-- L3: a take-back, where the last of len entries is e, whatever the others are
abbrev pub DeskUndoes : List ℕ → List ℕ → ℕ → ℕ → Entry → ℕ → List ℕ → ℕ → Type 0
DeskUndoes p st len k e n st' k' =
    (es : List Entry) → length es ≡ len → get_or es (k - 1) no_entry ≡ e → desk_undo_of p st es k ≡ undone n st' k'
