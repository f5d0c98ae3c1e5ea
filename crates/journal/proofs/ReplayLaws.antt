-- Lists of steps: the numbers along a list, and the steps of a list that pass, of which every site hears what it hears of the whole list.
-- Assumes nothing.
use mathlib.Core.Path.{◌≡◌, refl, sym, ◌∙◌, ap, subst}
use mathlib.Core.Bool.{false, cond}
use mathlib.Core.List.{List, [], ◌∷◌, ◌++◌}
use Prim.Native.Nat.{ℕ, zero, suc}
use lib.Dec.{eqb}
use lib.ListN.{replicate}
use borrow.Author.Tests.{eqb-true, eqb-false}
use Rattle.lists.proofs.Logic.{cases, decided}
use Rattle.event.specs.Event.{Event}
use Rattle.event.specs.Site.{Layout}
use Rattle.job.specs.Simulation.{Step, event, message, simulate, step_number, replay_from, numbers_from, passed_of, passed_from, heard_of, heard_from}
use Rattle.job.proofs.StepLaws.{refused-leaves}

pub replicate-end : (x n : ℕ) → replicate n x ++ (x ∷ []) ≡ replicate (suc n) x
replicate-end x zero = refl
replicate-end x (suc n) = ap (λ (l : List ℕ). x ∷ l) (replicate-end x n)

module _ (p : List ℕ) (lay : Layout) where
  pub numbers-append : (st : List ℕ) (ts us : List Step) → numbers_from p lay st (ts ++ us) ≡ numbers_from p lay st ts ++ numbers_from p lay (replay_from p lay st ts) us
  unfolding numbers_from replay_from
  numbers-append st [] us = refl
  numbers-append st (t ∷ ts) us = ap (λ (l : List ℕ). step_number p lay st t ∷ l) (numbers-append (simulate p lay st t).state ts us)

  -- every step of a list passes
  pub data Passes : List ℕ → List Step → Type 0 where
    none : {st : List ℕ} → Passes st []
    more : {st : List ℕ} {t : Step} {ts : List Step} → step_number p lay st t ≡ 0 → Passes (simulate p lay st t).state ts → Passes st (t ∷ ts)

  -- those of a list that pass
  pub passing : List ℕ → List Step → List Step
  passing st [] = []
  passing st (t ∷ ts) = cond (eqb (step_number p lay st t) 0) (t ∷ passing (simulate p lay st t).state ts) (passing (simulate p lay st t).state ts)

  quiet-passed : (t : Step) (n : ℕ) → eqb n 0 ≡ false → passed_of t n ≡ []
  unfolding passed_of
  quiet-passed (event code node) n h = rw h
  quiet-passed (message code node q) n h = refl

  quiet-heard : (q : ℕ) (t : Step) (n : ℕ) → eqb n 0 ≡ false → heard_of p lay q t n ≡ []
  unfolding heard_of
  quiet-heard q (event code node) n h = rw h
  quiet-heard q (message code node r) n h = rw h

  pub record Same (st : List ℕ) (ts us : List Step) : Type 0 where
    pub all_pass : Passes st us
    pub events : passed_from p lay st us ≡ passed_from p lay st ts
    pub heard : (q : ℕ) → heard_from p lay q st us ≡ heard_from p lay q st ts

  -- a refused step is left out
  skipped : (st : List ℕ) (t : Step) (ts : List Step) → eqb (step_number p lay st t) 0 ≡ false → (simulate p lay st t).state ≡ st →
      Same (simulate p lay st t).state ts (passing (simulate p lay st t).state ts) → Same st (t ∷ ts) (passing (simulate p lay st t).state ts)
  unfolding passed_from heard_from
  skipped st t ts z e r = record {
    all_pass = subst (λ (s : List ℕ). Passes s (passing (simulate p lay st t).state ts)) e r.all_pass;
    events = rw (quiet-passed t _ z) (ap (λ (s : List ℕ). passed_from p lay s (passing (simulate p lay st t).state ts)) (sym e) ∙ r.events);
    heard = λ q. rw (quiet-heard q t _ z) (ap (λ (s : List ℕ). heard_from p lay q s (passing (simulate p lay st t).state ts)) (sym e) ∙ r.heard q);
  }

  pub passing-same : (ts : List Step) (st : List ℕ) → Same st ts (passing st ts)
  unfolding passing passed_from heard_from
  passing-same [] st = record { all_pass = none; events = refl; heard = λ q. refl }
  passing-same (t ∷ ts) st =
      let r = passing-same ts (simulate p lay st t).state in
      cases (decided (eqb (step_number p lay st t) 0))
      (λ z. rw z (record {
        all_pass = more (eqb-true _ 0 z) r.all_pass;
        events = ap (λ (l : List Event). passed_of t (step_number p lay st t) ++ l) r.events;
        heard = λ q. ap (λ (l : List Event). heard_of p lay q t (step_number p lay st t) ++ l) (r.heard q);
      }))
      (λ z. rw z (skipped st t ts z (refused-leaves p lay st t (eqb-false _ 0 z)) r))
