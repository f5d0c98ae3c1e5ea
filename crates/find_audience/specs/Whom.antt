-- Whom, as private functions say it (rule V6). Definitions only.
use Rattle.std.specs.Prelude.{List, [], ◌∷◌, ℕ}
use Rattle.plan.specs.Plan.{children}
use Rattle.find_audience.specs.declared.Whom.{Whom}
use Rattle.find_audience.specs.declared.Whom.TheVariants.{Nobody, Node, ChildrenOf}

-- V6: the nodes meant
unfoldable pub whom_list : List ℕ → Whom → List ℕ
whom_list p Nobody = []
whom_list p (Node x) = x ∷ []
whom_list p (ChildrenOf u) = children p u
