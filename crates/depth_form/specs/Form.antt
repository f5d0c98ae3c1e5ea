-- Depth forms (rules R6 to R8): a plan's, a form's plan, and which forms are accepted. Definitions only.
use Rattle.std.specs.Prelude.{Bool, cond, ◌&&◌, not, List, [], ◌∷◌, ◌++◌, ℕ, zero, suc, pred, ◌+◌, ◌*◌, eqb, leb, get_or}
use Rattle.plan.specs.Plan.{size, kind_byte, depth}
use Rattle.plan.specs.Check.{length_ok, kind_ok, under_block, count_ok, depth_ok, at_all}

-- R6, R7: two bytes for each number below n
unfoldable pub pairs : (ℕ → ℕ) → (ℕ → ℕ) → ℕ → List ℕ
pairs f g zero = []
pairs f g (suc n) = pairs f g n ++ (f n ∷ g n ∷ [])

-- R6: a plan as kinds and depths
unfoldable pub depth_form : List ℕ → List ℕ
depth_form p = pairs (kind_byte p) (depth p) (size p)

-- R6: the depth in line v
unfoldable pub depth_at : List ℕ → ℕ → ℕ
depth_at d v = get_or d (2 * v + 1) 0

-- R7: the last line before v that has depth e
unfoldable pub last_at : List ℕ → ℕ → ℕ → ℕ
last_at d e zero = 0
last_at d e (suc v) = cond (eqb (depth_at d v) e) v (last_at d e v)

-- R7: the parent of line v is the last line before it that is one less deep; the first line is the root
unfoldable pub line_parent : List ℕ → ℕ → ℕ
line_parent d v = cond (eqb v 0) 255 (last_at d (pred (depth_at d v)) v)

-- R7: the plan of a depth form
unfoldable pub form_plan : List ℕ → List ℕ
form_plan d = pairs (kind_byte d) (line_parent d) (size d)

-- R8: the first depth is 1; a later one is at least 2, and at most one above that of the line before
unfoldable pub level_ok : List ℕ → ℕ → Bool
level_ok d v = cond (eqb v 0) (eqb (depth_at d 0) 1) (leb 2 (depth_at d v) && leb (depth_at d v) (suc (depth_at d (pred v))))

-- R8, H26: the first failing test, and 0 where none fails: 1 and 2 of the form, 17, then 4, 5 and 6 of its plan
unfoldable pub form_number : List ℕ → ℕ
form_number d =
    cond (not (length_ok d)) 1
    (cond (not (at_all kind_ok d)) 2
    (cond (not (at_all level_ok d)) 17
    (cond (not (at_all under_block (form_plan d))) 4
    (cond (not (at_all count_ok (form_plan d))) 5
    (cond (not (at_all depth_ok (form_plan d))) 6 0)))))
