-- The guard table: each guard as one line, its shape, by the event's code and the kinds of its node and of the node's parent (rules C2 to C8).
-- Definitions only.
use Rattle.std.specs.Prelude.{cond, List, ◌++◌, ℕ, eqb}
use Rattle.plan.specs.Plan.{is_kind, kind, parent, above}
use Rattle.plan.specs.declared.kinds.Kind.{Kind}
use Rattle.plan.specs.declared.kinds.Kind.TheVariants.{Task as task, Serial as serial, And as and, Or as or, Xor as xor, Contingency as contingency, Conditional as conditional, Waiting as waiting}
use Rattle.event.specs.Event.{Code, start, offer, commit, abort, answered-yes, answered-no, pick, down, code_number}
use Rattle.guard.specs.Family.{named_nodes, neighbour}
use Rattle.guard.specs.Put.{first_bytes, any_part, more_of}
use Rattle.guard.specs.declared.table.Shape.{Shape}

-- C8: what a shape's numbers stand for, in the guard's order: [code of node] where `each` is 0, else for each node that is named the first `each`
-- of [code, abort, turned down]; then [any of them]. The code 0 leaves its part out
abbrev pub shape : ℕ → ℕ → ℕ → ℕ → Shape
shape code node each any = record { code = code; node = node; each = each; any = any }

-- C2 to C6: the shapes that occur: no clause; one event; for each the first n codes from c on, alone or with a last clause [d of any]; that
-- clause alone; and one event with it
abbrev pub no_clause : Shape
no_clause = shape 0 0 0 0

abbrev pub one_event : Code → ℕ → Shape
one_event c v = shape (code_number c) v 0 0

abbrev pub each_child : Code → ℕ → Shape
each_child c n = shape (code_number c) 0 n 0

abbrev pub each_then_any : Code → ℕ → Code → Shape
each_then_any c n d = shape (code_number c) 0 n (code_number d)

abbrev pub any_child : Code → Shape
any_child c = shape 0 0 0 (code_number c)

abbrev pub one_then_any : Code → ℕ → Code → Shape
one_then_any c v d = shape (code_number c) v 0 (code_number d)

-- C2: the start of a first child, by the kind of its parent u
unfoldable pub first_shape : Kind → ℕ → Shape
first_shape task u = no_clause
first_shape serial u = one_event start u
first_shape and u = one_event start u
first_shape or u = one_event start u
first_shape xor u = one_event start u
first_shape contingency u = one_event start u
first_shape conditional u = one_event answered-yes u
first_shape waiting u = one_event start u

-- C2: that of a later child; b is the one before it
unfoldable pub later_shape : Kind → ℕ → ℕ → Shape
later_shape task u b = no_clause
later_shape serial u b = one_event commit b
later_shape and u b = one_event start u
later_shape or u b = one_event start u
later_shape xor u b = one_event start u
later_shape contingency u b = one_event abort b
later_shape conditional u b = one_event answered-no u
later_shape waiting u b = one_event start u

-- C3: finishing, by the kind of v; l is its last child
unfoldable pub finish_shape : Kind → ℕ → ℕ → Shape
finish_shape task v l = one_event start v
finish_shape serial v l = one_event commit l
finish_shape and v l = each_child commit 1
finish_shape or v l = each_then_any commit 2 commit
finish_shape xor v l = each_then_any commit 3 commit
finish_shape contingency v l = any_child commit
finish_shape conditional v l = any_child commit
finish_shape waiting v l = each_child commit 1

-- C4: abort
unfoldable pub abort_shape : Kind → ℕ → ℕ → Shape
abort_shape task v l = one_event start v
abort_shape serial v l = any_child abort
abort_shape and v l = any_child abort
abort_shape or v l = each_child abort 1
abort_shape xor v l = each_child abort 1
abort_shape contingency v l = one_event abort l
abort_shape conditional v l = any_child abort
abort_shape waiting v l = each_then_any commit 2 abort

-- C2 to C7: by the code, the kinds of v and of its parent u, and the neighbour b, which is v itself where v is a first child
unfoldable pub shape_of : Code → Kind → Kind → ℕ → ℕ → ℕ → Shape
shape_of start k above u v b = cond (eqb b v) (first_shape above u) (later_shape above u b)
shape_of offer k above u v b = finish_shape k v b
shape_of commit k above u v b = cond (is_kind xor above) (one_event pick v) (finish_shape k v b)
shape_of abort k above u v b = abort_shape k v b
shape_of answered-yes k above u v b = one_event start v
shape_of answered-no k above u v b = one_event start v
shape_of pick k above u v b = one_event offer v
shape_of down k above u v b = one_then_any offer v pick

-- C2 to C7: the shape of an event's guard in a plan
unfoldable pub guard_shape : List ℕ → Code → ℕ → Shape
guard_shape p c v = shape_of c (kind p v) (above p v) (parent p v) v (neighbour c v (named_nodes p c v))

-- C8: the bytes of a shape whose guard names cs
unfoldable pub shape_bytes : Shape → List ℕ → List ℕ
shape_bytes s cs = first_bytes s.code s.node s.each (more_of s.any) cs ++ any_part s.any cs
