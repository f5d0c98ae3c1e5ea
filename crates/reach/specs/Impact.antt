-- One answer changed (rules O6, O7): what the call answers and leaves. Definitions only.
use Rattle.std.specs.Prelude.{Bool, cond, not, List, ℕ, eqb, ltb, leb, get_or, set}
use Rattle.lists.specs.Seq.{all_below}
use Rattle.plan.specs.Plan.{kind, size, is_kind}
use Rattle.plan.specs.declared.kinds.Kind.TheVariants.{Task as task}
use Rattle.pass.specs.Pass.{PassResult, pass_result, pass, pass_number}

-- O6, H24: the marks m, one a node, are those of the pass over the answers a
unfoldable pub are_marks : List ℕ → List ℕ → List ℕ → Bool
are_marks p a m = all_below (λ v. eqb (get_or m v 0) (get_or (pass p a).marks v 0)) (size p)

-- O6, H13: the number of the answers a with x at the task t; what is no byte is no answer
unfoldable pub new_number : List ℕ → List ℕ → ℕ → ℕ → ℕ
new_number p a t x = cond (leb x 255) (pass p (set a t x)).number 13

-- O6: 13 or 14 of the answers, then of the new ones, then 28
unfoldable pub change_number : List ℕ → List ℕ → List ℕ → ℕ → ℕ → ℕ
change_number p a m t x =
    cond (not (eqb (pass p a).number 0)) (pass p a).number
    (cond (not (eqb (new_number p a t x) 0)) (new_number p a t x)
    (cond (not (are_marks p a m)) 28 0))

-- O6, H0: 1 to 7 as the pass has them, 8 of the node, 9 of its kind, then those of the change
unfoldable pub impact_number : List ℕ → List ℕ → List ℕ → ℕ → ℕ → ℕ
impact_number p a m t x =
    cond (not (eqb (pass_number p a m) 0)) (pass_number p a m)
    (cond (not (ltb t (size p))) 8
    (cond (not (is_kind task (kind p t))) 9
    (change_number p a m t x)))

-- O6, O7: a refused call leaves the marks m; any other leaves those of the pass over the new answers
unfoldable pub impact_into : List ℕ → List ℕ → List ℕ → ℕ → ℕ → PassResult
impact_into p a m t x = cond (not (eqb (impact_number p a m t x) 0)) (pass_result (impact_number p a m t x) m) (pass_result 0 (pass p (set a t x)).marks)
