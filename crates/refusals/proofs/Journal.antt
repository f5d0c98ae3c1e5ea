-- A kept step and a take-back, of an accepted plan with right lengths, for any layout of rows: behind 7 come the simulation's numbers, or 16, 8 and 9.
-- Assumes nothing.
use mathlib.Core.Path.{refl}
use mathlib.Core.Bool.{not, ◌&&◌}
use mathlib.Core.List.{List}
use Prim.Native.Nat.{ℕ, ◌-◌, ◌≤◌, ◌<◌}
use borrow.Author.Tests.{le-leb}
use lib.Dec.{eqb, leb}
use lib.ListN.{length, get_or}
use Rattle.lists.proofs.Logic.{and-join}
use Rattle.plan.proofs.Main.{fit-exact}
use Rattle.event.specs.Site.{Layout}
use Rattle.job.specs.Simulation.{step_by, state_fits}
use Rattle.layout.specs.Layout.{Laid}
use Rattle.journal.specs.declared.Entry.{Entry}
use Rattle.journal.specs.Journal.{no_entry, sited, step_on, entry_fault, undo_fits, undo_number, taken_back, Undone, undone, undo_of}
use Rattle.journal.specs.Session.{kept_number}
use Rattle.journal.proofs.UndoLaws.{keep-room}
use Rattle.refusals.specs.Claim.{Later}
use Rattle.refusals.proofs.ChoiceLaws.{choice}
use Rattle.refusals.proofs.PassNumbers.{none-later, later}
use Rattle.refusals.proofs.Passes.{fault-later}
use Rattle.refusals.proofs.Simulated.{laid-fits, simulate-later}

module _ (p : List ℕ) (lay : Layout) (row : ℕ → ℕ) (st : List ℕ) (laid : Laid p lay st) (es : List Entry) (k : ℕ) where
  pub keep-later : (code node site : ℕ) → k < length es → Later (kept_number p lay row st es k code node site)
  unfolding step_on
  keep-later code node site room = rw (keep-room p lay row st es k code node site room) (simulate-later p lay st laid (step_by row code node site))

  number-later : k ≤ length es → Later (undo_number p lay row st es k)
  unfolding undo_number undo_fits entry_fault
  number-later within =
      let f = (fit-exact p (state_fits p lay st && leb k (length es))).none.1 (laid.plan, and-join _ _ (laid-fits p lay st laid) (le-leb k (length es) within)) in
      let e : Entry = get_or es (k - 1) no_entry in
      rw f (choice Later (eqb k 0) 16 _ (λ z. later 16 refl) (λ z. fault-later p (sited p lay row e.site) e.code e.node))

  pub undo-later : k ≤ length es → Later (undo_of p lay row st es k).number
  unfolding undo_of
  undo-later within =
      let n = undo_number p lay row st es k in
      choice (λ (u : Undone). Later u.number) (not (eqb n 0)) (undone n st k) (undone 0 (taken_back p lay row st (get_or es (k - 1) no_entry)) (k - 1))
      (λ e. number-later within) (λ e. none-later)
