-- The last entry taken back: where its bit is, and each answer. Assumes nothing.
use Rattle.std.proofs.Common.{◌≡◌, sym, ap, ◌∙◌, List, ℕ, ◌+◌, ◌*◌, ◌-◌, ◌≤◌, ◌<◌, Some, None, slice_get, arith}
use Rattle.std.proofs.lemmas.Option.{none-some, slice_get-get_or, get_or_from_slice_get}
use borrow.Author.Tests.{eq-eqb, ne_eqb, eqb-true, eqb-false, ltb-true, le-leb}
use lib.Dec.{eqb}
use lib.ListN.{length, get_or, set}
use Rattle.lists.proofs.Logic.{cases, decided, and-join}
use Rattle.plan.specs.Plan.{size}
use Rattle.plan.proofs.Main.{fit-exact}
use Rattle.event.specs.Event.{event_of}
use Rattle.event.specs.Site.{Layout}
use Rattle.event.specs.Bit.{without_bit}
use Rattle.event.proofs.ValidLaws.{Faultless, faultless}
use Rattle.runs.proofs.Full.{site-in}
use Rattle.job.specs.Simulation.{state_fits}
use Rattle.job.proofs.StateLaws.{row-unhear}
use Rattle.layout.specs.Layout.{Laid}
use Rattle.layout.proofs.StepLaws.{row-spot}
use Rattle.journal.specs.declared.Entry.{Entry}
use Rattle.journal.specs.Journal.{no_entry, target, sited, entry_fault, undo_fits, undo_number, taken_back, undone, undo_of}
use Rattle.keeping.specs.Keeping.{Undoes}

-- where there is no last entry, none is kept
none-left : (es : List Entry) (k : ℕ) → k ≤ length es → (0 < k → None ≡ slice_get es (k - 1)) → k ≡ 0
none-left es k within last = cases (decided (eqb k 0))
    (λ z. eqb-true k 0 z)
    (λ z. let l : 0 < k = (let ne = eqb-false k 0 z in omega arith) in absurd (none-some _ (last l ∙ slice_get-get_or es (k - 1) no_entry (omega arith))))

module _ (p : List ℕ) (lay : Layout) (row : ℕ → ℕ) (st : List ℕ) (laid : Laid p lay st) (e : Entry) where
  -- AN ENTRY in which nothing is wrong
  module _ (fine : entry_fault p lay row e ≡ 0) where
    right : Faultless p (sited p lay row e.site) e.code e.node
    unfolding entry_fault
    right = faultless p (sited p lay row e.site) e.code e.node fine

    module _ (q n : ℕ) (there : q ≡ target p lay row e.code e.node e.site) (count : n ≡ size p) where
      below : q < lay.rows
      unfolding target sited
      below = rw there (cases (decided (eqb e.site 255))
          (λ s. rw s (site-in p laid.plan lay laid.housed (event_of e.code e.node) right.applied))
          (λ s. rw s (ltb-true (row e.site) lay.rows (rw s at right.placed))))

      -- its bit is in the state
      pub entry-spot : q * n + e.node < length st
      entry-spot = row-spot p lay st laid e.code e.node n q count below right.node_in

      pub taken-clear : (e.changed ≡ 0 → ⊥) → (x : ℕ) → x ≡ without_bit (get_or st (q * n + e.node) 0) e.code → set st (q * n + e.node) x ≡ taken_back p lay row st e
      unfolding taken_back
      taken-clear c x is = rw (ne_eqb e.changed 0 c, ← there) (sym (row-unhear p st q e.node right.node_in e.code ∙ rw (← count, ← is)))

  pub taken_none : e.changed ≡ 0 → st ≡ taken_back p lay row st e
  unfolding taken_back
  taken_none c = rw c

  -- THE LAST of k entries
  module _ (es : List Entry) (k : ℕ) (within : k ≤ length es) where
    fits : undo_fits p lay row st es k ≡ 0
    unfolding undo_fits state_fits
    fits = (fit-exact p _).none.1 (laid.plan, and-join _ _ (eq-eqb (length st) (lay.rows * size p) laid.long) (le-leb k (length es) within))

    pub undo-none : (0 < k → None ≡ slice_get es (k - 1)) → undo_of p lay row st es k ≡ undone 16 st k
    unfolding undo_of undo_number
    undo-none last = let z : k ≡ 0 = none-left es k within last in rw (fits, eq-eqb k 0 z)

    module _ (none : k ≡ 0 → Some e ≡ None) (last : 0 < k → Some e ≡ slice_get es (k - 1)) where
      pub some : k ≡ 0 → ⊥
      some z = none-some e (sym (none z))

      is_last : get_or es (k - 1) no_entry ≡ e
      is_last = get_or_from_slice_get es (k - 1) e no_entry (sym (last (let s = some in omega arith)))

      number_is : undo_number p lay row st es k ≡ entry_fault p lay row e
      unfolding undo_number
      number_is = rw (fits, ne_eqb k 0 some, is_last)

      pub undo-bad : (n : ℕ) → n ≡ entry_fault p lay row e → (n ≡ 0 → ⊥) → undo_of p lay row st es k ≡ undone n st k
      unfolding undo_of
      undo-bad n is bad = rw (number_is, ← is, ne_eqb n 0 bad)

      pub undo-done : entry_fault p lay row e ≡ 0 → (st' : List ℕ) → st' ≡ taken_back p lay row st e → undo_of p lay row st es k ≡ undone 0 st' (k - 1)
      unfolding undo_of
      undo-done fine st' is = rw (number_is, fine, is_last, is)

  -- THE LAST of len entries, whatever the others are
  module _ (len k : ℕ) (within : k ≤ len) where
    pub undoes-none : k ≡ 0 → Undoes p lay row st len k e 16 st k
    undoes-none z es long last = undo-none es k (rw long within) (λ l. absurd (omega arith))

    module _ (some : k ≡ 0 → ⊥) where
      there : (es : List Entry) → length es ≡ len → get_or es (k - 1) no_entry ≡ e → 0 < k → Some e ≡ slice_get es (k - 1)
      there es long last l = sym (slice_get-get_or es (k - 1) no_entry (omega arith) ∙ ap Some last)

      pub undoes-bad : (n : ℕ) → n ≡ entry_fault p lay row e → (n ≡ 0 → ⊥) → Undoes p lay row st len k e n st k
      undoes-bad n is bad es long last = undo-bad es k (rw long within) (λ z. absurd (some z)) (there es long last) n is bad

      pub undoes-done : entry_fault p lay row e ≡ 0 → (st' : List ℕ) → st' ≡ taken_back p lay row st e → Undoes p lay row st len k e 0 st' (k - 1)
      undoes-done fine st' is es long last = undo-done es k (rw long within) (λ z. absurd (some z)) (there es long last) fine st' is
