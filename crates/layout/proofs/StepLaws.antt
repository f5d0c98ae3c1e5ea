-- One step over a layout, where the plan and the state's length have been tested: each of its answers, and which part of the state it touches.
-- Assumes nothing.
use mathlib.Core.Path.{◌≡◌, refl, ap, ◌∙◌}
use mathlib.Core.Bool.{Bool, true, false}
use mathlib.Core.List.{List, ◌++◌}
use Prim.Native.Nat.{ℕ, ◌+◌, ◌*◌, ◌-◌, ◌≤◌, ◌<◌}
use native.Mathlib.Omega.{arith}
use borrow.Author.Tests.{eq-eqb, ne_eqb, le-leb, ltb-true}
use lib.Dec.{eqb, ltb}
use lib.ListN.{length, get_or, take, drop, set}
use Rattle.lists.proofs.Logic.{and-join}
use Rattle.plan.specs.Plan.{size}
use Rattle.plan.proofs.Main.{fit-exact}
use Rattle.event.specs.Event.{is_code, event_of}
use Rattle.event.specs.Site.{Layout, site_of}
use Rattle.event.specs.Bit.{has_bit, with_bit}
use Rattle.event.specs.Valid.{event_fault, invalid}
use Rattle.event.proofs.CodeLaws.{code-number}
use Rattle.event.proofs.ValidLaws.{Faultless, faultless, invalid-fault}
use Rattle.row.specs.Row.{heard_in, heard}
use Rattle.site.specs.Step.{stepped, step_invalid, decide, step_at}
use Rattle.site.specs.Verdict.{Invalid, Untrue}
use Rattle.site.specs.Verdict.{Verdict}
use Rattle.site.specs.Verdict.{Heard, Refused}
use Rattle.site.proofs.StepLaws.{step-valid}
use Rattle.runs.proofs.Full.{site-in}
use Rattle.job.specs.Simulation.{row_of, with_row, step_by, simulated, state_fits, happen, tell, simulate}
use Rattle.job.proofs.StateLaws.{row_below, row-length, byte_at, row-hear}
use Rattle.layout.specs.Layout.{Laid}

pub part-width : (a n : ℕ) → a + n - a ≡ n
part-width a n = omega arith

-- three numbers as a step
module _ (p : List ℕ) (lay : Layout) (row : ℕ → ℕ) (code node site : ℕ) (st : List ℕ) where
  pub simulate-event : site ≡ 255 → simulate p lay st (step_by row code node site) ≡ happen p lay st code node
  unfolding step_by simulate
  simulate-event e = rw e

  pub simulate-message : (site ≡ 255 → ⊥) → simulate p lay st (step_by row code node site) ≡ tell p lay st code node (row site)
  unfolding step_by simulate
  simulate-message e = rw (ne_eqb site 255 e)

module _ (p : List ℕ) (lay : Layout) (st : List ℕ) (laid : Laid p lay st) (code node : ℕ) where
  fitting : state_fits p lay st ≡ true
  unfolding state_fits
  fitting = eq-eqb (length st) (lay.rows * size p) laid.long

  -- of the tests, those of the event are left
  tests : (sited : Bool) → invalid p (state_fits p lay st) sited code node ≡ event_fault p sited code node
  tests sited = invalid-fault p (state_fits p lay st) sited code node ((fit-exact p (state_fits p lay st)).none.1 (laid.plan, fitting))

  -- a spot of row h, and the end of it, by the code's number of nodes
  module _ (n h : ℕ) (count : n ≡ size p) (below : h < lay.rows) where
    pub row-end : h * n + n ≤ length st
    row-end = let r = row_below (size p) h lay.rows below in rw (count, laid.long) r

    pub row-spot : node < size p → h * n + node < length st
    row-spot l = let r = row-end in omega arith

  -- AN EVENT
  pub happen-refused : (n : ℕ) → n ≡ event_fault p true code node → (n ≡ 0 → ⊥) → happen p lay st code node ≡ simulated st (Refused (Invalid n))
  unfolding happen
  happen-refused n e h = rw (tests true, ← e, ne_eqb n 0 h)

  module _ (none : event_fault p true code node ≡ 0) where
    pub event-fine : Faultless p true code node
    event-fine = faultless p true code node none

    module _ (q : ℕ) (there : q ≡ site_of p lay (event_of code node)) where
      pub site-below : q < lay.rows
      site-below = rw there (site-in p laid.plan lay laid.housed (event_of code node) event-fine.applied)

      row-tests : step_invalid p code node (row_of p st q) ≡ 0
      unfolding step_invalid
      row-tests =
          let fits : eqb (length (row_of p st q)) (size p) ≡ true = eq-eqb _ _ (row-length p st lay.rows q laid.long site-below) in
          rw fits (invalid-fault p true true code node ((fit-exact p true).none.1 (laid.plan, refl)) ∙ none)

      -- the site decides on its row; the code's numbers are n nodes and m bytes of the part
      pub happen-decided : (n m : ℕ) → n ≡ size p → m ≡ n → (row : List ℕ) (v : Verdict) → decide p q code node (take m (drop (q * n) st)) ≡ stepped row v →
          happen p lay st code node ≡ simulated (take (q * n) st ++ (row ++ drop m (drop (q * n) st))) v
      unfolding happen row_of with_row
      happen-decided n m count wide row v d =
          let a : decide p q code node (take (size p) (drop (q * size p) st)) ≡ stepped row v = rw (wide, count) at d in
          let s : step_at p q code node (take (size p) (drop (q * size p) st)) ≡ stepped row v = step-valid p q code node _ row-tests ∙ a in
          rw (tests true, none, ← there, s, wide, count)

  -- A MESSAGE to row q
  module _ (q : ℕ) where
    pub tell-refused : (n : ℕ) → n ≡ event_fault p (ltb q lay.rows) code node → (n ≡ 0 → ⊥) → tell p lay st code node q ≡ simulated st (Refused (Invalid n))
    unfolding tell
    tell-refused n e h = rw (tests (ltb q lay.rows), ← e, ne_eqb n 0 h)

    module _ (none : event_fault p (ltb q lay.rows) code node ≡ 0) where
      pub message-fine : Faultless p (ltb q lay.rows) code node
      message-fine = faultless p (ltb q lay.rows) code node none

      pub told_below : q < lay.rows
      told_below = ltb-true q lay.rows message-fine.placed

      module _ (n h : ℕ) (count : n ≡ size p) (there : h ≡ site_of p lay (event_of code node)) where
        pub home_below : h < lay.rows
        home_below = rw there (site-in p laid.plan lay laid.housed (event_of code node) message-fine.applied)

        heard-there : heard (row_of p st (site_of p lay (event_of code node))) (event_of code node) ≡ has_bit (get_or st (h * n + node) 0) code
        unfolding heard heard_in is_code
        heard-there =
            let c : is_code code ≡ true = and-join _ _ (le-leb 1 code message-fine.low) (le-leb code 8 message-fine.high) in
            rw (← there, code-number code c, byte_at p st h node message-fine.node_in, count)

        pub tell-false : has_bit (get_or st (h * n + node) 0) code ≡ false → tell p lay st code node q ≡ simulated st (Refused Untrue)
        unfolding tell
        tell-false b = rw (tests (ltb q lay.rows), none, heard-there, b)

        pub tell-done : has_bit (get_or st (h * n + node) 0) code ≡ true → (x : ℕ) → x ≡ with_bit (get_or st (q * n + node) 0) code →
            tell p lay st code node q ≡ simulated (set st (q * n + node) x) Heard
        unfolding tell
        tell-done b x e =
            rw (tests (ltb q lay.rows), none, heard-there, b) (ap (λ s. simulated s Heard) (row-hear p st q node message-fine.node_in code ∙ rw (← count, e)))
