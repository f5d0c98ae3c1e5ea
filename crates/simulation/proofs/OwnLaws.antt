-- The layout without tables, where every node has its own row. Assumes nothing.
use mathlib.Core.Path.{◌≡◌, sym, ◌∙◌}
use mathlib.Core.Bool.{Bool}
use mathlib.Core.List.{List}
use Prim.Native.Nat.{ℕ, ◌*◌}
use borrow.Author.Tests.{eqb-true}
use lib.Dec.{eqb}
use lib.ListN.{length}
use Rattle.plan.specs.Plan.{size}
use Rattle.plan.specs.Check.{fit_number, Accepted}
use Rattle.plan.proofs.Main.{fit-exact}
use Rattle.event.specs.Site.{Layout, own}
use Rattle.site.specs.Verdict.{Invalid}
use Rattle.site.specs.Verdict.{Refused}
use Rattle.job.specs.Simulation.{step_from, simulated, state_fits}
use Rattle.job.proofs.StepLaws.{unfit-refused}
use Rattle.layout.specs.Layout.{Laid}
use Rattle.simulation.specs.Run.{simulate_of}

-- what a caller has tested
pub own-laid : (p st : List ℕ) → Accepted p → length st ≡ size p * size p → Laid p (own p) st
unfolding own
own-laid p st ok long = record { plan = ok; housed = λ v l. l; few = ok.few; long = long }

pub laid_kept : (p : List ℕ) (lay : Layout) (st st' : List ℕ) → Laid p lay st → length st' ≡ length st → Laid p lay st'
laid_kept p lay st st' l e = record { plan = l.plan; housed = l.housed; few = l.few; long = e ∙ l.long }

-- the tests of one step
module _ (p st : List ℕ) (n : ℕ) (count : n ≡ size p) (b : Bool) (is : b ≡ eqb (length st) (n * n)) (r : ℕ) (e : r ≡ fit_number p b) where
  told : r ≡ fit_number p (state_fits p (own p) st)
  unfolding state_fits own
  told = e ∙ rw (is, count)

  pub step-unfit : (r ≡ 0 → ⊥) → (code node site : ℕ) → simulate_of p code node site st ≡ simulated st (Refused (Invalid r))
  unfolding simulate_of
  step-unfit h code node site = unfit-refused p (own p) st (step_from code node site) r told h

  pub step-laid : r ≡ 0 → Laid p (own p) st
  unfolding state_fits own
  step-laid z = let f = (fit-exact p (state_fits p (own p) st)).none.0 (sym told ∙ z) in own-laid p st f.0 (eqb-true _ _ f.1)
