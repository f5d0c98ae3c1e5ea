-- The call that repeats a template (rules S6, S8) as one value. Definitions only.
use Rattle.std.specs.Prelude.{Bool, cond, not, ◌&&◌, List, ℕ, eqb, ltb, leb, length}
use Rattle.plan.specs.Plan.{size}
use Rattle.plan.specs.Check.{fit_number}
use Rattle.plan.specs.Made.{Made, made, in_front}
use Rattle.trees.specs.Tree.{node_count}
use Rattle.template.specs.Repeat.{can_mark, repeated_tree, repeated}

-- S6: how many times there may be
unfoldable pub times_ok : ℕ → Bool
times_ok r = leb 1 r && leb r 32

-- S6, H27: of an accepted plan and the right number of lent bytes: 8 of the node, 23 of what is marked, 24 of the count, 25 of the nodes
unfoldable pub template_number : List ℕ → ℕ → ℕ → ℕ
template_number p m r =
    cond (not (ltb m (size p))) 8
    (cond (not (can_mark p m)) 23
    (cond (not (times_ok r)) 24
    (cond (not (leb (node_count (repeated_tree p m r)) 160)) 25 0)))

-- S6, H0, H7: 1 to 6 of the plan, 7 where the lent bytes are not 320, then the numbers of the template
unfoldable pub repeat_number : List ℕ → ℕ → ℕ → List ℕ → ℕ
repeat_number p m r out = cond (not (eqb (fit_number p (eqb (length out) 320)) 0)) (fit_number p (eqb (length out) 320)) (template_number p m r)

-- S6, S8: a refused call leaves the lent bytes; any other leaves the repeated plan in front
unfoldable pub repeat_of : List ℕ → ℕ → ℕ → List ℕ → Made
repeat_of p m r out =
    cond (not (eqb (repeat_number p m r out) 0)) (made (repeat_number p m r out) 0 out)
    (made 0 (size (repeated p m r)) (in_front (repeated p m r) out))
