-- The calls on a plan of two bytes a node: their tests, and the layout without tables. Assumes nothing.
use mathlib.Core.Path.{◌≡◌, sym, ◌∙◌}
use mathlib.Core.Bool.{Bool, ◌&&◌}
use mathlib.Core.List.{List}
use Prim.Native.Nat.{ℕ, ◌*◌, ◌≤◌, ◌<◌}
use native.Mathlib.Omega.{arith}
use borrow.Author.Tests.{ne_eqb, eqb-true, ltb-true, leb-true}
use lib.Dec.{eqb, ltb, leb}
use lib.ListN.{length}
use lib.Seq.{set_out}
use Rattle.lists.proofs.Logic.{and_left, and_right}
use Rattle.plan.specs.Plan.{size}
use Rattle.plan.specs.Check.{fit_number}
use Rattle.plan.proofs.Main.{fit-exact}
use Rattle.event.specs.Site.{own}
use Rattle.site.specs.Verdict.{Invalid}
use Rattle.site.specs.Verdict.{Refused}
use Rattle.job.specs.Simulation.{state_fits}
use Rattle.layout.specs.Layout.{layout_by, Laid}
use Rattle.simulation.proofs.OwnLaws.{own-laid}
use Rattle.journal.specs.declared.Entry.{Entry}
use Rattle.journal.specs.Journal.{keep_fits, keep_of, undo_fits, undo_number, undo_of}
use Rattle.keeping.specs.Keeping.{Keeps, Undoes}

module _ (p : List ℕ) (n : ℕ) (count : n ≡ size p) (st : List ℕ) (len k : ℕ) where
  -- the tests: b is the code's of the state's length, and r the number of all
  module _ (b : Bool) (square : b ≡ eqb (length st) (n * n)) (r : ℕ) where
    module _ (told : r ≡ fit_number p (b && ltb k len)) where
      keep-fits : (es : List Entry) → length es ≡ len → keep_fits p (own p) (λ q. q) st es k ≡ r
      unfolding keep_fits state_fits own
      keep-fits es long = sym (told ∙ rw (square, count, long))

      pub keep-unfit : (r ≡ 0 → ⊥) → (code node site : ℕ) (e : Entry) → Keeps p (own p) (λ q. q) st len k code node site (Refused (Invalid r)) len e st k
      unfolding keep_of
      keep-unfit bad code node site e es long = rw (keep-fits es long, ne_eqb r 0 bad, set_out es len e (omega arith))

      pub keep-laid : r ≡ 0 → Laid p (own p) st × (k < len)
      keep-laid z = let f = (fit-exact p (b && ltb k len)).none.0 (sym told ∙ z) in
          (own-laid p st f.0 (eqb-true _ _ (sym square ∙ and_left _ _ f.1) ∙ rw count), ltb-true k len (and_right b _ f.1))

    module _ (told : r ≡ fit_number p (b && leb k len)) where
      undo-fits : (es : List Entry) → length es ≡ len → undo_fits p (own p) (λ q. q) st es k ≡ r
      unfolding undo_fits state_fits own
      undo-fits es long = sym (told ∙ rw (square, count, long))

      pub undo-unfit : (r ≡ 0 → ⊥) → (e : Entry) → Undoes p (own p) (λ q. q) st len k e r st k
      unfolding undo_of undo_number
      undo-unfit bad e es long last = rw (undo-fits es long, ne_eqb r 0 bad, ne_eqb r 0 bad)

      pub undo-laid : r ≡ 0 → Laid p (own p) st × (k ≤ len)
      undo-laid z = let f = (fit-exact p (b && leb k len)).none.0 (sym told ∙ z) in
          (own-laid p st f.0 (eqb-true _ _ (sym square ∙ and_left _ _ f.1) ∙ rw count), leb-true k len (and_right b _ f.1))

-- a layout that means the one without tables
module _ (p lp home : List ℕ) (rows : ℕ) (plan : lp ≡ p) (is : layout_by rows home ≡ own p) (st : List ℕ) (laid : Laid p (own p) st) where
  pub as-laid : Laid lp (layout_by rows home) st
  as-laid = rw (plan, is) laid

  pub as-wide : (size lp ≤ 160) × (length st ≡ rows * size lp)
  unfolding layout_by
  as-wide = (as-laid.plan.few, as-laid.long)
