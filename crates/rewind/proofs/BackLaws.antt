-- Going back (rule M6): which number it meets does not depend on the state, so a look at the entries alone tells it before a bit is cleared.
-- Assumes nothing.
use mathlib.Core.Path.{◌≡◌, refl, ◌∙◌, ap}
use mathlib.Core.List.{List}
use Prim.Native.Nat.{ℕ, zero, suc, ◌+◌, ◌-◌, ◌*◌, ◌≤◌, ◌<◌}
use native.Mathlib.Omega.{arith}
use lib.Dec.{eqb}
use lib.ListN.{length, get_or, length-set}
use borrow.Author.Tests.{ne_eqb, eqb-true, eqb-false}
use Rattle.std.proofs.Common.{Some, slice_get, sym}
use Rattle.std.proofs.lemmas.Option.{slice_get-get_or}
use Rattle.lists.proofs.Logic.{cases, decided}
use Rattle.plan.specs.Plan.{size}
use Rattle.event.specs.Site.{Layout}
use Rattle.event.specs.Bit.{without_bit}
use Rattle.event.proofs.ValidLaws.{faultless}
use Rattle.job.proofs.StateLaws.{row-unhear}
use Rattle.layout.specs.Layout.{Laid}
use Rattle.simulation.proofs.OwnLaws.{laid_kept}
use Rattle.journal.specs.declared.Entry.{Entry}
use Rattle.journal.specs.Journal.{no_entry, target, sited, entry_fault, taken_back, undone}
use Rattle.keeping.proofs.UndoLaws.{undo-bad, undo-done}
use Rattle.rewind.specs.Return.{back_of}
use Rattle.rewind.specs.Rewound.{last_of, first_fault, rewound}

module _ (p : List ℕ) (lay : Layout) (row : ℕ → ℕ) where
  -- a take-back of an entry in which nothing is wrong keeps the state's length
  taken-length : (st : List ℕ) (e : Entry) → entry_fault p lay row e ≡ 0 → length (taken_back p lay row st e) ≡ length st
  unfolding taken_back entry_fault
  taken-length st e z =
      let q : ℕ = target p lay row e.code e.node e.site in
      let ok = faultless p (sited p lay row e.site) e.code e.node z in
      cases (decided (eqb e.changed 0))
      (λ c. rw c)
      (λ c. rw c (ap length (row-unhear p st q e.node ok.node_in e.code) ∙ length-set st (q * size p + e.node) (without_bit (get_or st (q * size p + e.node) 0) e.code)))

  pub taken-long : (st : List ℕ) (e : Entry) → entry_fault p lay row e ≡ 0 → (st' : List ℕ) → st' ≡ taken_back p lay row st e → length st' ≡ length st
  taken-long st e z st' back = ap length back ∙ taken-length st e z

  -- the last of some entries is there
  last-got : (es : List Entry) (k : ℕ) → (k ≡ 0 → ⊥) → k ≤ length es → Some (last_of es k) ≡ slice_get es (k - 1)
  last-got es k some m = sym (slice_get-get_or es (k - 1) no_entry (omega arith))

  -- THE DRY RUN: its number is that of going back, and where it is 0 the state is `rewound`
  pub back-dry : (n : ℕ) (st : List ℕ) (es : List Entry) (k : ℕ) → Laid p lay st → n ≤ k → k ≤ length es →
      ((back_of p lay row n st es k).number ≡ first_fault p lay row es n k)
      × (first_fault p lay row es n k ≡ 0 → back_of p lay row n st es k ≡ undone 0 (rewound p lay row st es n k) (k - n))
  unfolding back_of first_fault rewound
  back-dry zero st es k laid l m = (refl, λ z. let e : k - 0 ≡ k = omega arith in rw e)
  back-dry (suc n) st es k laid l m =
      let some : k ≡ 0 → ⊥ = λ z. absurd (omega arith) in
      let e : Entry = last_of es k in
      cases (decided (eqb (entry_fault p lay row e) 0))
      (λ c. let z = eqb-true (entry_fault p lay row e) 0 c in
      let st' : List ℕ = taken_back p lay row st e in
      let u = undo-done p lay row st laid e es k m (λ z. absurd (some z)) (λ l. last-got es k some m) z st' refl in
      let r = back-dry n st' es (k - 1) (laid_kept p lay st st' laid (taken-length st e z)) (omega arith) (omega arith) in
      let d : k - suc n ≡ k - 1 - n = omega arith in
      rw (u, c, d) r)
      (λ c. let h = eqb-false (entry_fault p lay row e) 0 c in
      let u = undo-bad p lay row st laid e es k m (λ z. absurd (some z)) (λ l. last-got es k some m) (entry_fault p lay row e) refl h in
      rw (u, c) (refl, λ z. absurd (h z)))

-- THE LOOPS over entries down to a place: the rest says what the whole says
module _ (p : List ℕ) (lay : Layout) (row : ℕ → ℕ) (es : List Entry) (place k : ℕ) where
  module _ (above : place < k) (e : Entry) (is : e ≡ last_of es k) where
    steps : k - place ≡ suc (k - 1 - place)
    steps = omega arith

    pub fault-met : (n : ℕ) → n ≡ entry_fault p lay row e → (n ≡ 0 → ⊥) → n ≡ first_fault p lay row es (k - place) k
    unfolding first_fault
    fault-met n f bad = rw (steps, ← is, ← f, ne_eqb n 0 bad)

    pub fault-on : entry_fault p lay row e ≡ 0 → first_fault p lay row es (k - 1 - place) (k - 1) ≡ first_fault p lay row es (k - place) k
    unfolding first_fault
    fault-on z = rw (steps, ← is, z)

    -- what is still to be taken back is without fault
    pub fault-none : first_fault p lay row es (k - place) k ≡ 0 → (entry_fault p lay row e ≡ 0) × (first_fault p lay row es (k - 1 - place) (k - 1) ≡ 0)
    unfolding first_fault
    fault-none z = cases (decided (eqb (entry_fault p lay row e) 0))
        (λ c. let f = eqb-true (entry_fault p lay row e) 0 c in (f, fault-on f ∙ z))
        (λ c. let f = eqb-false (entry_fault p lay row e) 0 c in absurd (f (fault-met (entry_fault p lay row e) refl f ∙ z)))

    -- st' is what the code has taken e back to
    pub rewound-on : (st st' : List ℕ) → st' ≡ taken_back p lay row st e → rewound p lay row st' es (k - 1 - place) (k - 1) ≡ rewound p lay row st es (k - place) k
    unfolding rewound
    rewound-on st st' back = rw (steps, back, is)

  module _ (reached : k ≤ place) where
    none : k - place ≡ 0
    none = omega arith

    pub fault-end : first_fault p lay row es (k - place) k ≡ 0
    unfolding first_fault
    fault-end = rw none

    pub rewound-end : (st : List ℕ) → rewound p lay row st es (k - place) k ≡ st
    unfolding rewound
    rewound-end st = rw none
