-- The tests of specs/Valid.antt: which fails first, and what is known where none does. Assumes nothing.
use mathlib.Core.Path.{◌≡◌}
use mathlib.Core.Bool.{Bool, true, false, ◌&&◌, and-false}
use mathlib.Core.List.{List}
use Prim.Native.Nat.{ℕ, ◌≤◌, ◌<◌}
use borrow.Author.Tests.{eq-eqb, ne_eqb, ltb-true}
use Rattle.lists.proofs.Logic.{and_left, and_right, test-passed, number_passed}
use Rattle.plan.specs.Plan.{size}
use Rattle.plan.specs.Check.{fit_number}
use Rattle.plan.proofs.Main.{fit-exact}
use Rattle.event.specs.Event.{is_code, event_of, known, applies}
use Rattle.event.specs.Valid.{event_fault, invalid, Valid}
use Rattle.event.proofs.CodeLaws.{code-range}

pub record Known (p : List ℕ) (code node : ℕ) : Type 0 where
  pub low : 1 ≤ code
  pub high : code ≤ 8
  pub node_in : node < size p

pub known-told : (p : List ℕ) (code node : ℕ) → known p code node ≡ true → Known p code node
unfolding known
known-told p code node h =
    let r = code-range code (and_left _ _ h) in
    record { low = r.0; high = r.1; node_in = ltb-true node (size p) (and_right (is_code code) _ h) }

module _ (p : List ℕ) (sited : Bool) (code node : ℕ) where
  pub fault-unsited : sited ≡ false → event_fault p sited code node ≡ 8
  unfolding event_fault
  fault-unsited s = rw (s, and-false)

  pub fault-unknown : known p code node ≡ false → event_fault p sited code node ≡ 8
  unfolding event_fault
  fault-unknown k = rw k

  module _ (placed : sited ≡ true) (knows : known p code node ≡ true) where
    pub fault-inapplicable : applies p (event_of code node) ≡ false → event_fault p sited code node ≡ 9
    unfolding event_fault
    fault-inapplicable e = rw (knows, placed, e)

    pub fault-none : applies p (event_of code node) ≡ true → event_fault p sited code node ≡ 0
    unfolding event_fault
    fault-none e = rw (knows, placed, e)

  -- what holds where nothing is wrong with the event
  pub record Faultless : Type 0 where
    pub placed : sited ≡ true
    pub low : 1 ≤ code
    pub high : code ≤ 8
    pub node_in : node < size p
    pub applied : applies p (event_of code node) ≡ true

  pub faultless : event_fault p sited code node ≡ 0 → Faultless
  unfolding event_fault
  faultless h =
      let c = test-passed (known p code node && sited) 7 _ h in
      let d = test-passed (applies p (event_of code node)) 8 0 c.1 in
      let k = known-told p code node (and_left _ _ c.0) in
      record { placed = and_right (known p code node) _ c.0; low = k.low; high = k.high; node_in = k.node_in; applied = d.0 }

module _ (p : List ℕ) (fits sited : Bool) (code node : ℕ) where
  pub invalid-fit : (fit_number p fits ≡ 0 → ⊥) → invalid p fits sited code node ≡ fit_number p fits
  unfolding invalid
  invalid-fit h = rw (ne_eqb (fit_number p fits) 0 h)

  pub invalid-fault : fit_number p fits ≡ 0 → invalid p fits sited code node ≡ event_fault p sited code node
  unfolding invalid
  invalid-fault h = rw (eq-eqb (fit_number p fits) 0 h)

  -- the number is 0 only where every test passed
  pub valid : invalid p fits sited code node ≡ 0 → Valid p fits sited code node
  unfolding invalid
  valid h =
      let a = number_passed (fit_number p fits) _ h in
      let b = (fit-exact p fits).none.0 a.0 in
      let f = faultless p sited code node a.1 in
      record { plan = b.0; long = b.1; placed = f.placed; low = f.low; high = f.high; node_in = f.node_in; applied = f.applied }
