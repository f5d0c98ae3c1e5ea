-- An event that passes always turns its bit, since every event bars itself (rules D1 and L1). Assumes nothing.
use mathlib.Core.Path.{◌≡◌, refl, sym, ◌∙◌}
use mathlib.Core.Bool.{Bool, true, false}
use mathlib.Core.List.{List}
use Prim.Native.Nat.{ℕ, ◌<◌}
use lib.Dec.{eqb, ltb}
use borrow.Author.Tests.{eq-eqb, le-leb, ltb-true, not-true}
use Rattle.lists.specs.Member.{here, there}
use Rattle.lists.proofs.Logic.{no_bool, clash, and_left, and_right, and-join}
use Rattle.lists.proofs.Members.{any-by, any-map}
use Rattle.lists.specs.Seq.{any}
use Rattle.plan.specs.Plan.{size, kind, parent, children, in_xor}
use Rattle.plan.specs.Check.{Accepted}
use Rattle.plan.proofs.AcceptedLaws.{parent-child}
use Rattle.event.specs.Event.{Code, start, offer, commit, abort, answered-yes, answered-no, pick, down, Event, at, event_of, is_code, applies_by, applies}
use Rattle.event.specs.Site.{Layout, site_of}
use Rattle.event.specs.Valid.{invalid}
use Rattle.event.proofs.HostLaws.{xor-later}
use Rattle.guard.specs.Guard.{bars_by, bars, barred}
use Rattle.row.specs.Row.{heard, heard_in}
use Rattle.row.proofs.RowLaws.{heard-number}
use Rattle.site.specs.Verdict.{report_of, verdict_number}
use Rattle.site.specs.Step.{step_invalid, step_at}
use Rattle.site.proofs.StepLaws.{step-passes}
use Rattle.job.specs.Simulation.{row_of, step_by, state_fits, happen, simulate}
use Rattle.journal.specs.declared.Entry.{Entry}
use Rattle.journal.specs.Journal.{target, is_set, entry_of, step_on}
use Rattle.journal.specs.Session.{kept_number}
use Rattle.journal.proofs.UndoLaws.{happen-valid, step_ok, keep-told}

-- every event bars itself
module _ (p : List ℕ) (ok : Accepted p) (h : Event → Bool) where
  barred-by : (c : Code) (v : ℕ) → v < size p → applies_by c (kind p v) (in_xor p v) ≡ true → h (at c v) ≡ true → any h (bars_by p c v) ≡ true
  unfolding bars_by applies_by
  barred-by start v l a e = any-by h (here refl) e
  barred-by offer v l a e = any-by h (here refl) e
  barred-by commit v l a e = any-by h (here refl) e
  barred-by abort v l a e = any-by h (here refl) e
  barred-by answered-yes v l a e = any-by h (here refl) e
  barred-by answered-no v l a e = any-by h (there (here refl)) e
  barred-by pick v l a e = any-map h (at pick) (children p (parent p v)) ∙ any-by (λ c. h (at pick c)) (parent-child p ok v (xor-later p v a) l) e
  barred-by down v l a e = any-by h (here refl) e

  barred-itself : (e : Event) → applies p e ≡ true → h e ≡ true → barred p h e ≡ true
  unfolding applies barred bars
  barred-itself e a = barred-by e.code e.node (ltb-true e.node (size p) (and_left _ _ a)) (and_right (ltb e.node (size p)) _ a)

-- an event that passes is not barred
module _ (p : List ℕ) (lay : Layout) (st : List ℕ) (code node : ℕ) where
  abbrev site : ℕ
  site = site_of p lay (event_of code node)

  abbrev own_row : List ℕ
  own_row = row_of p st site

  happen-decides : verdict_number (happen p lay st code node).verdict ≡ 0 → verdict_number (step_at p site code node own_row).verdict ≡ 0
  unfolding happen report_of
  happen-decides h = rw (eq-eqb (invalid p (state_fits p lay st) true code node) 0 (happen-valid p lay st code node h)) at h

  happen-free : verdict_number (happen p lay st code node).verdict ≡ 0 → barred p (heard own_row) (event_of code node) ≡ false
  happen-free h =
      let passes = sym (step-passes p site code node own_row) ∙ eq-eqb _ 0 (happen-decides h) in
      not-true _ (and_left _ _ (and_right (eqb (step_invalid p code node own_row) 0) _ passes))

module _ (p : List ℕ) (lay : Layout) (row : ℕ → ℕ) (st : List ℕ) (code node : ℕ) where
  number-happen : verdict_number (step_on p lay row st code node 255).verdict ≡ 0 → verdict_number (happen p lay st code node).verdict ≡ 0
  unfolding step_on step_by simulate
  number-happen z = z

  pub event-unset : verdict_number (step_on p lay row st code node 255).verdict ≡ 0 → is_set p lay row st code node 255 ≡ false
  unfolding is_set target is_code
  event-unset z =
      let v = step_ok p lay row st code node 255 z in
      let r : List ℕ = row_of p st (site_of p lay (event_of code node)) in
      let c : is_code code ≡ true = and-join _ _ (le-leb 1 code v.low) (le-leb code 8 v.high) in
      no_bool (heard_in r code node) (λ b.
      clash _ (barred-itself p v.plan (heard r) (event_of code node) v.applied (heard-number r code node c ∙ b)) (happen-free p lay st code node (number-happen z)))

  pub event-turns : (es : List Entry) (k : ℕ) → kept_number p lay row st es k code node 255 ≡ 0 → (entry_of p lay row st code node 255).changed ≡ 1
  unfolding entry_of
  event-turns es k z = rw (event-unset (keep-told p lay row st es k code node 255 z).1)
