-- The call's tests in their order, and what a pass that was accepted leaves. Assumes nothing.
use mathlib.Core.Path.{◌≡◌, refl, sym, ap, ◌∙◌}
use mathlib.Core.Bool.{false, cond, not, and-true, and-false, false≢true}
use mathlib.Core.List.{List}
use Prim.Native.Nat.{ℕ, ◌≤◌}
use borrow.Author.Tests.{eq-eqb, ne_eqb, eqb-true}
use lib.Dec.{eqb}
use lib.ListN.{length}
use Rattle.lists.proofs.Logic.{cases, decided}
use Rattle.plan.specs.Plan.{size}
use Rattle.plan.specs.Check.{fit_number}
use Rattle.plan.proofs.FitLaws.{fit_none}
use Rattle.plan.proofs.Main.{fit-exact}
use Rattle.pass.specs.Pass.{PassResult, pass_result, pass, pass_number, pass_into}
use Rattle.retention.specs.Record.{table_number, record_of, Recorded, recorded, classes_into}
use Rattle.retention.proofs.RecordLaws.{classes-are}
use Rattle.pass_record.specs.PassRecord.{lent_number, pass_record_number, pass_record_into}

module _ (p tab a m c : List ℕ) where
  -- r is the first number of the call
  refused : (r : ℕ) → pass_record_number p tab a m c ≡ r → (r ≡ 0 → ⊥) → pass_record_into p tab a m c ≡ recorded r m c
  unfolding pass_record_into
  refused r e h = rw (e, ne_eqb r 0 h)

  pub table-refused : (r : ℕ) → r ≡ table_number tab → (r ≡ 0 → ⊥) → pass_record_into p tab a m c ≡ recorded r m c
  unfolding pass_record_number
  table-refused r e h = refused r (rw (ne_eqb (table_number tab) 0 (λ z. h (e ∙ z)), e)) h

  module _ (right : table_number tab ≡ 0) where
    -- classes that are not one byte a node
    pub classes-refused : (n : ℕ) → n ≡ size p → (length c ≡ n → ⊥) → (r : ℕ) → r ≡ fit_number p false → pass_record_into p tab a m c ≡ recorded r m c
    unfolding pass_record_number lent_number
    classes-refused n e h r f =
        let some : r ≡ 0 → ⊥ = λ z. false≢true (fit_none p false (sym f ∙ z)).1 in
        refused r (rw (right, ne_eqb (length c) (size p) (λ z. h (z ∙ sym e)), and-false, ← f, ne_eqb r 0 some)) some

    module _ (n : ℕ) (count : n ≡ size p) (room : length c ≡ n) where
      long : length c ≡ size p
      long = room ∙ count

      same : lent_number p a m c ≡ pass_number p a m
      unfolding lent_number pass_number
      same = rw (eq-eqb (length c) (size p) long, and-true)

      few : pass_number p a m ≡ 0 → size p ≤ 160
      unfolding pass_number
      few z = ((fit-exact p _).none.0 z).0.few

      -- what the pass answered and left, and its classes
      abbrev classed : PassResult → Recorded
      classed s = recorded s.number s.marks (cond (not (eqb s.number 0)) c (classes_into p tab s.marks c))

      by-pass : pass_record_into p tab a m c ≡ classed (pass_into p a m)
      unfolding pass_record_into pass_record_number pass_into record_of
      by-pass = cases (decided (eqb (pass_number p a m) 0))
          (λ z. cases (decided (eqb (pass p a).number 0))
          (λ y. rw (right, same, z, y, eqb-true (pass p a).number 0 y, classes-are p tab (pass p a).marks c (few (eqb-true (pass_number p a m) 0 z)) long) refl)
          (λ y. rw (right, same, z, y, y) refl))
          (λ z. rw (right, same, z, z) refl)

      -- the pass answered r and left the marks m'
      module _ (r : ℕ) (m' : List ℕ) (h : pass_into p a m ≡ pass_result r m') where
        pub pass-refused : (r ≡ 0 → ⊥) → pass_record_into p tab a m c ≡ recorded r m' c
        pass-refused n = by-pass ∙ ap classed h ∙ rw (ne_eqb r 0 n)

        pub pass-done : r ≡ 0 → (c' : List ℕ) → c' ≡ classes_into p tab m' c → pass_record_into p tab a m c ≡ recorded 0 m' c'
        pass-done z c' e = by-pass ∙ ap classed h ∙ rw (z, e)
