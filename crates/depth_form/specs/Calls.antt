-- The calls between plans and depth forms (rule R10), each as one value: the number and the lent bytes. Definitions only.
use Rattle.std.specs.Prelude.{cond, not, List, ℕ, eqb, length}
use Rattle.plan.specs.Check.{check_number}
use Rattle.plan.specs.Replaced.{Replaced, replaced_by}
use Rattle.trees.specs.Numbering.{in_preorder}
use Rattle.depth_form.specs.Form.{depth_form, form_plan, form_number}

-- R10, H0, H26: 1 to 6 of the plan, 18 where it is not in the fixed numbering, then 7 where the lent bytes have not its length
unfoldable pub to_depths_number : List ℕ → List ℕ → ℕ
to_depths_number p out =
    cond (not (eqb (check_number p) 0)) (check_number p)
    (cond (not (in_preorder p)) 18
    (cond (not (eqb (length out) (length p))) 7 0))

-- R10: a refused call leaves the lent bytes; any other leaves the plan's depth form
unfoldable pub to_depths_of : List ℕ → List ℕ → Replaced
to_depths_of p out = replaced_by (to_depths_number p out) out (depth_form p)

-- R10, H0: the form's number, then 7 where the lent bytes have not its length
unfoldable pub from_depths_number : List ℕ → List ℕ → ℕ
from_depths_number d out =
    cond (not (eqb (form_number d) 0)) (form_number d)
    (cond (not (eqb (length out) (length d))) 7 0)

-- R10: a refused call leaves the lent bytes; any other leaves the form's plan
unfoldable pub from_depths_of : List ℕ → List ℕ → Replaced
from_depths_of d out = replaced_by (from_depths_number d out) out (form_plan d)
