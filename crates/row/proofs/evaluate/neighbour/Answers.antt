-- The search for v itself, or for the root, which is nobody's child. Assumes nothing.
use Rattle.std.proofs.Common.{◌≡◌, List, ℕ, ◌≤◌, eqb, eqb-true, arith}
use borrow.Author.Tests.{eqb-false}
use Rattle.lists.proofs.Logic.{cases, decided}
use Rattle.plan.specs.Plan.{children}
use Rattle.event.specs.Event.{code_of}
use Rattle.guard.specs.Guard.{before_in}
use Rattle.guard.specs.Family.{family_parent, left_out, family, neighbour}
use Rattle.row.proofs.EvaluateLaws.{neighbour-before, neighbour-last}
use Rattle.row.proofs.evaluate.neighbour.Goals as goal

-- both, by where the search stops
neighbour-stop : (p : List ℕ) (code v : ℕ) {u r stop : ℕ} → u ≡ family_parent p (code_of code) v → 1 ≤ code → code ≤ 4 → r ≡ before_in v (children p u) stop →
    (code ≡ 1 → stop ≡ v) → ((code ≡ 1 → ⊥) → stop ≡ 0) → r ≡ neighbour (code_of code) v (family p (family_parent p (code_of code) v) (left_out (code_of code) v))
neighbour-stop p code v is low high h s t = cases (decided (eqb code 1))
    (λ f. let e = eqb-true code 1 f in neighbour-before p code v is low high e (s e) h)
    (λ f. let n = eqb-false code 1 f in neighbour-last p code v is low high n (t n) h)

pub returns : goal.returns
returns c = λ low high.
    neighbour-stop _ _ _ c.family_parent.ensures low high (rw c.from.ensures at c.before_or_last.ensures) (λ e. grind arith) (λ n. grind arith)
