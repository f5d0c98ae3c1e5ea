-- The record's and the list's calls: their tests, and what they leave. Assumes nothing.
use mathlib.Core.Path.{◌≡◌, ◌∙◌}
use mathlib.Core.Bool.{Bool, true, ◌&&◌}
use mathlib.Core.List.{List}
use Prim.Native.Nat.{ℕ, ◌*◌, ◌/◌, ◌%◌}
use borrow.Author.Tests.{eqb-true, ne_eqb}
use lib.Dec.{eqb}
use lib.ListN.{length}
use Rattle.lists.proofs.Logic.{and_left, and_right}
use Rattle.plan.specs.Plan.{size}
use Rattle.plan.specs.Check.{fit_number, Accepted}
use Rattle.plan.proofs.FitLaws.{fit_none}
use Rattle.plan.proofs.Main.{fit-exact}
use Rattle.event.specs.Site.{Layout, own}
use Rattle.retention.specs.Record.{table_number, record_of, recorded, classes_into}
use Rattle.retention.proofs.RecordLaws.{classes-are}
use Rattle.job.specs.Simulation.{state_fits, end_marks}
use Rattle.layout.specs.Layout.{Laid}
use Rattle.simulation.specs.Run.{record_number, record_by_number, record_by_on, run_number}
use Rattle.simulation.proofs.OwnLaws.{own-laid}

module _ (p : List ℕ) (lay : Layout) (st m c : List ℕ) where
  -- the table's number, and the others behind it
  pub table-refused : (tab : List ℕ) (r : ℕ) → r ≡ table_number tab → (r ≡ 0 → ⊥) → record_by_on p lay tab st m c ≡ recorded r m c
  unfolding record_by_on record_by_number
  table-refused tab r e h = let n = ne_eqb (table_number tab) 0 (λ z. h (e ∙ z)) in rw (n, n, e)

  pub record-refused : (tab : List ℕ) → table_number tab ≡ 0 → (r : ℕ) → r ≡ record_number p lay st m c → (r ≡ 0 → ⊥) → record_by_on p lay tab st m c ≡ recorded r m c
  unfolding record_by_on record_by_number
  record-refused tab ok r e h = rw (ok, ne_eqb (record_number p lay st m c) 0 (λ z. h (e ∙ z)), e)

  module _ (zero : record_number p lay st m c ≡ 0) where
    record-tests : Accepted p × ((eqb (length st) (lay.rows * size p) && eqb (length m) (size p) && eqb (length c) (size p)) ≡ true)
    unfolding record_number state_fits
    record-tests = (fit-exact p _).none.0 zero

    pub record-long : (length st ≡ lay.rows * size p) × (length m ≡ size p) × (length c ≡ size p)
    record-long =
        let t = record-tests.1 in
        let a = and_left (eqb (length st) (lay.rows * size p) && eqb (length m) (size p)) (eqb (length c) (size p)) t in (
          eqb-true _ _ (and_left _ _ a),
          eqb-true _ _ (and_right (eqb (length st) (lay.rows * size p)) _ a),
          eqb-true _ _ (and_right (eqb (length st) (lay.rows * size p) && eqb (length m) (size p)) _ t),
        )

    pub record-done : (tab : List ℕ) → table_number tab ≡ 0 → (m' c' : List ℕ) → m' ≡ end_marks p lay st → c' ≡ classes_into p tab m' c → record_by_on p lay tab st m c ≡ recorded 0 m' c'
    unfolding record_by_on record_by_number record_of
    record-done tab ok m' c' h g =
        let k : c' ≡ (record_of p tab m').classes = g ∙ classes-are p tab m' c record-tests.0.few record-long.2 in
        rw (ok, zero, k, h)

-- where every node has its own row
module _ (p st m c : List ℕ) where
  -- the code's tests
  pub record-told : (n : ℕ) → n ≡ size p → (b : Bool) → b ≡ (eqb (length st) (n * n) && eqb (length m) n && eqb (length c) n) →
      (r : ℕ) → r ≡ fit_number p b → r ≡ record_number p (own p) st m c
  unfolding record_number state_fits own
  record-told n e b f r g = g ∙ rw (f, e)

  pub record-laid : record_number p (own p) st m c ≡ 0 → Laid p (own p) st
  unfolding own
  record-laid zero = own-laid p st (record-tests p (own p) st m c zero).0 (record-long p (own p) st m c zero).0

module _ (p bs st ns : List ℕ) where
  pub run-told : (n : ℕ) → n ≡ size p → (b : Bool) → b ≡ (eqb (length st) (n * n) && eqb (length bs % 3) 0 && eqb (length ns) (length bs / 3)) →
      (r : ℕ) → r ≡ fit_number p b → r ≡ run_number p bs st ns
  unfolding run_number state_fits own
  run-told n e b f r g = g ∙ rw (f, e)

  pub run_long : run_number p bs st ns ≡ 0 → length ns ≡ length bs / 3
  unfolding run_number
  run_long z = eqb-true _ _ (and_right (state_fits p (own p) st && eqb (length bs % 3) 0) _ (fit_none p _ z).1)

  pub run-laid : run_number p bs st ns ≡ 0 → Laid p (own p) st
  unfolding run_number state_fits own
  run-laid z =
      let f = (fit-exact p _).none.0 z in
      own-laid p st f.0 (eqb-true _ _ (and_left _ _ (and_left (eqb (length st) (size p * size p) && eqb (length bs % 3) 0) _ f.1)))
