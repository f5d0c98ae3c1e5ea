-- The nodes that a guard names: the children of a node, or a node's siblings (rules C2 to C6 and C8). Definitions only.
use Rattle.std.specs.Prelude.{Bool, true, false, cond, not, ◌&&◌, List, [], ℕ, pred, eqb}
use Rattle.lists.specs.Seq.{keep, up_from, last_or}
use Rattle.plan.specs.Plan.{is_kind, size, kind, parent, above}
use Rattle.plan.specs.declared.kinds.Kind.{Kind}
use Rattle.plan.specs.declared.kinds.Kind.TheVariants.{Task as task, Serial as serial, And as and, Or as or, Xor as xor, Contingency as contingency, Conditional as conditional, Waiting as waiting}
use Rattle.event.specs.Event.{Code, start, offer, commit, abort, answered-yes, answered-no, pick, down}
use Rattle.guard.specs.Guard.{before_in}

-- A4, C8: the children of u but one, in rising number; the root is nobody's child, so 0 leaves none out
unfoldable pub in_family : List ℕ → ℕ → ℕ → ℕ → Bool
in_family p u skip c = eqb (parent p c) u && not (eqb c skip)

unfoldable pub family : List ℕ → ℕ → ℕ → List ℕ
family p u skip = keep (in_family p u skip) (up_from 1 (pred (size p)))

-- C2 to C6: whose children the guard of an event of v names. A start goes by its siblings, a turned down waits for one of them
unfoldable pub family_parent : List ℕ → Code → ℕ → ℕ
family_parent p start v = parent p v
family_parent p offer v = v
family_parent p commit v = v
family_parent p abort v = v
family_parent p answered-yes v = v
family_parent p answered-no v = v
family_parent p pick v = v
family_parent p down v = parent p v

-- C8: and which of them it leaves out
unfoldable pub left_out : Code → ℕ → ℕ
left_out start v = 0
left_out offer v = 0
left_out commit v = 0
left_out abort v = 0
left_out answered-yes v = 0
left_out answered-no v = 0
left_out pick v = 0
left_out down v = v

-- C2: a block of this kind starts its children by their places
unfoldable pub in_turn : Kind → Bool
in_turn task = false
in_turn serial = true
in_turn and = false
in_turn or = false
in_turn xor = false
in_turn contingency = true
in_turn conditional = true
in_turn waiting = false

-- C2 to C7: by the kinds of v and of its parent, whether the guard names any of them
unfoldable pub names_family : Code → Kind → Kind → Bool
names_family start k above = in_turn above
names_family offer k above = not (is_kind task k)
names_family commit k above = not (is_kind xor above) && not (is_kind task k)
names_family abort k above = not (is_kind task k)
names_family answered-yes k above = false
names_family answered-no k above = false
names_family pick k above = false
names_family down k above = true

-- C8: the nodes that it names, in rising number
unfoldable pub named_nodes : List ℕ → Code → ℕ → List ℕ
named_nodes p code v = cond (names_family code (kind p v) (above p v)) (family p (family_parent p code v) (left_out code v)) []

-- C2 to C4: the one node of a family that a guard may name alone: the one before v for a start, the last for a finish or an abort. No other
-- guard names one, and what stands there is never used
unfoldable pub neighbour : Code → ℕ → List ℕ → ℕ
neighbour start v cs = before_in v cs v
neighbour offer v cs = last_or v cs
neighbour commit v cs = last_or v cs
neighbour abort v cs = last_or v cs
neighbour answered-yes v cs = before_in v cs v
neighbour answered-no v cs = before_in v cs v
neighbour pick v cs = before_in v cs v
neighbour down v cs = before_in v cs v

-- C2 to C4: by the kinds of v and of its parent, whether the guard goes by that one. A conditional's children go by which of them is the first
unfoldable pub names_one : Code → Kind → Kind → Bool
names_one start k above = in_turn above
names_one offer k above = is_kind serial k
names_one commit k above = not (is_kind xor above) && is_kind serial k
names_one abort k above = is_kind contingency k
names_one answered-yes k above = false
names_one answered-no k above = false
names_one pick k above = false
names_one down k above = false
