-- A template, and its tree repeated (rules S1, S2). Definitions only.
use Rattle.std.specs.Prelude.{Bool, cond, ◌&&◌, ◌||◌, List, ℕ, zero, suc, ◌+◌, eqb, ltb}
use Rattle.plan.specs.Plan.{size, kind_byte, children, child_count}
use Rattle.trees.specs.Tree.{Forest, none, tree, trees_of, trees_below}
use Rattle.trees.specs.Numbering.{plan_of}

-- S1: a block of this kind can be repeated: and, or, xor, waiting and
unfoldable pub can_repeat : ℕ → Bool
can_repeat k = ((eqb k 3 || eqb k 4) || eqb k 5) || eqb k 8

-- S1: m can be marked
unfoldable pub can_mark : List ℕ → ℕ → Bool
can_mark p m = can_repeat (kind_byte p m) && eqb (child_count p m) 1

-- S2: the trees s, and beside them the trees t
unfoldable pub beside : Forest → Forest → Forest
beside none t = t
beside (tree k b s) t = tree k b (beside s t)

-- S2: the trees t, so many times
unfoldable pub times : ℕ → Forest → Forest
times zero t = none
times (suc r) t = beside t (times r t)

-- S2: what is below v, if there are at most so many levels: below the marked node m what the plan has there, r times; below any other node
-- its children, in rising number
unfoldable pub repeated_within : ℕ → List ℕ → ℕ → ℕ → ℕ → Forest
repeated_within zero p m r v = none
repeated_within (suc levels) p m r v = cond (eqb v m) (times r (trees_below p m)) (trees_of (kind_byte p) (repeated_within levels p m r) (children p v))

-- S2: what is below v, without a bound (specs/Claim.antt, RepeatSteps)
unfoldable pub repeated_below : List ℕ → ℕ → ℕ → ℕ → Forest
repeated_below p m r v = repeated_within (size p) p m r v

-- S2: the tree of the template, repeated
unfoldable pub repeated_tree : List ℕ → ℕ → ℕ → Forest
repeated_tree p m r = tree (kind_byte p 0) (repeated_below p m r 0) none

-- S2: and written as a plan
unfoldable pub repeated : List ℕ → ℕ → ℕ → List ℕ
repeated p m r = plan_of (repeated_tree p m r)

-- S9: numbers from x on move by s, and those before x stay
unfoldable pub moved : ℕ → ℕ → ℕ → ℕ
moved x s v = cond (ltb v x) v (v + s)
