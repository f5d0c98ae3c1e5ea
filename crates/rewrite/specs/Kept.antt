-- What a rewritten plan keeps (rule A7): MAIN CLAIM. Definitions only.
use Rattle.std.specs.Prelude.{◌≡◌, cond, ◌&&◌, List, [], ◌∷◌, ◌++◌, ℕ}
use Rattle.plan.specs.Plan.{is_kind, kind, children}
use Rattle.plan.specs.declared.kinds.Kind.TheVariants.{And as and}
use Rattle.plan.specs.Check.{check_number}
use Rattle.event.specs.Event.{commit, abort, same_code, Event}
use Rattle.guard.specs.Guard.{Guard, each, any_of, guard}
use Rattle.pass.specs.Pass.{pass}
use Rattle.rewrite.specs.Rewrite.{rewritten}

-- A7: the guard before kind 08: the abort of an and waited for all children to commit or abort, one of them to abort; all others are as now
unfoldable pub old_guard : List ℕ → Event → Guard
old_guard p e =
    cond (same_code abort e.code && is_kind and (kind p e.node))
    (each (commit ∷ abort ∷ []) (children p e.node) ++ any_of abort (children p e.node))
    (guard p e)

-- MAIN CLAIM (A7). A rewritten plan is accepted if the plan was, its guards are the old ones of the plan, and the pass ends alike over both.
pub record Kept (p : List ℕ) : Type 0 where
  pub checked : check_number (rewritten p) ≡ check_number p
  pub guards : (e : Event) → guard (rewritten p) e ≡ old_guard p e
  pub passes : (a : List ℕ) → pass (rewritten p) a ≡ pass p a

abbrev pub RewriteKeeps : Type 0
RewriteKeeps = (p : List ℕ) → Kept p
