-- The functions of this crate as values (rules L2 and L3). They do not see the entries: the caller stores the one that they answer, and hands in the
-- last one. So what they promise holds for entries of any bytes. Definitions only.
use Rattle.std.specs.Prelude.{◌≡◌, Bool, cond, List, ℕ, ◌+◌, ◌-◌, length, get_or, set}
use Rattle.event.specs.Site.{Layout, own}
use Rattle.site.specs.Verdict.{Verdict, verdict_number}
use Rattle.job.specs.Simulation.{simulated}
use Rattle.journal.specs.declared.Entry.{Entry}
use Rattle.journal.specs.Journal.{no_entry, Kept, kept, keep_of, Undone, undone, undo_of}

-- L2: a step whose entry e goes to place `at` of len entries, whatever these are; past their end nothing is stored
abbrev pub Keeps : List ℕ → Layout → (ℕ → ℕ) → List ℕ → ℕ → ℕ → ℕ → ℕ → ℕ → Verdict → ℕ → Entry → List ℕ → ℕ → Type 0
Keeps p lay row st len k code node site v at e st' k' =
    (es : List Entry) → length es ≡ len → keep_of p lay row st es k code node site ≡ kept (simulated st' v) (set es at e) k'

-- L1, L2: what is kept of a step with the verdict v, where `was` says that it is a repeat: its entry at the count, or nothing past the end
pub record KeptBy (v : Verdict) (was : Bool) (code node site len k : ℕ) (told : Verdict) (at : ℕ) (e : Entry) (k' : ℕ) : Type 0 where
  pub same : told ≡ v
  pub stored : verdict_number v ≡ 0 → (at ≡ k) × (e ≡ record { code = code; node = node; site = site; changed = cond was 0 1 }) × (k' ≡ k + 1)
  pub left : (verdict_number v ≡ 0 → ⊥) → (at ≡ len) × (k' ≡ k)

-- L3: a take-back, where the last of len entries is e, whatever the others are
abbrev pub Undoes : List ℕ → Layout → (ℕ → ℕ) → List ℕ → ℕ → ℕ → Entry → ℕ → List ℕ → ℕ → Type 0
Undoes p lay row st len k e n st' k' =
    (es : List Entry) → length es ≡ len → get_or es (k - 1) no_entry ≡ e → undo_of p lay row st es k ≡ undone n st' k'

-- B4: where every node has its own row, named by its own number
abbrev pub keep_own : List ℕ → List ℕ → List Entry → ℕ → ℕ → ℕ → ℕ → Kept
keep_own p st es k code node site = keep_of p (own p) (λ q. q) st es k code node site

abbrev pub undo_own : List ℕ → List ℕ → List Entry → ℕ → Undone
undo_own p st es k = undo_of p (own p) (λ q. q) st es k
