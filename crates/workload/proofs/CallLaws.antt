-- When the call passes, and what it leaves. Assumes nothing.
use Rattle.std.proofs.Common.{◌≡◌, ℕ, ◌*◌, eqb, List, length, sym, refl, ◌∙◌, eq-eqb, eqb-true}
use Rattle.plan.specs.Plan.{size}
use Rattle.plan.specs.Check.{fit_number, Accepted}
use Rattle.plan.specs.Replaced.{replaced}
use Rattle.plan.proofs.Main.{fit-exact}
use Rattle.plan.proofs.ReplacedLaws.{replaced-left, replaced-just}
use Rattle.workload.specs.Load.{load}
use Rattle.workload.specs.Call.{load_number, load_of}
use Rattle.workload.specs.Claim.{LoadCall}

-- k is what `fit` answered
module _ (p : List ℕ) (c : ℕ) (out : List ℕ) (k : ℕ) (told : k ≡ fit_number p (eqb (length out) (3 * c))) where
  pub load-refused : (k ≡ 0 → ⊥) → (s : ℕ) → load_of p s c out ≡ replaced k out
  unfolding load_of load_number
  load-refused n s = rw (← told) (replaced-left k out (load (size p) c s) n)

  pub load-ready : k ≡ 0 → Accepted p × (length out ≡ 3 * c)
  load-ready e = let f = (fit-exact p (eqb (length out) (3 * c))).none.0 (sym told ∙ e) in (f.0, eqb-true (length out) (3 * c) f.1)

  pub load-passed : k ≡ 0 → (s : ℕ) (out' : List ℕ) → out' ≡ load (size p) c s → load_of p s c out ≡ replaced 0 out'
  unfolding load_of load_number
  load-passed e s out' h = rw (← told) ((replaced-just k out (load (size p) c s) out').1 (e, sym h))

pub load-call : LoadCall
unfolding load_of load_number
load-call p s c out out' = (
  λ h. let e = (replaced-just _ out (load (size p) c s) out').0 h in
      let r = load-ready p c out _ refl e.0 in
      (r.0, r.1, sym e.1),
  λ h. load-passed p c out _ refl ((fit-exact p (eqb (length out) (3 * c))).none.1 (h.0, eq-eqb (length out) (3 * c) h.1)) s out' h.2,
)
