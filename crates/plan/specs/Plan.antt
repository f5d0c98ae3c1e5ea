-- Plan bytes (rules A): nodes, kinds, parents, children, siblings, depths. Definitions only.
use Rattle.std.specs.Prelude.{Bool, cond, not, List, ℕ, zero, suc, pred, ◌+◌, ◌*◌, ◌/◌, length, get_or, eqb}
use Rattle.lists.specs.Seq.{keep, up_from}
-- A2: an and fails with its first failed child, a waiting and once all children have ended
use Rattle.plan.specs.declared.kinds.Kind.{Kind}
use Rattle.plan.specs.declared.kinds.Kind.TheVariants.{Task as task, Serial as serial, And as and, Or as or, Xor as xor, Contingency as contingency, Conditional as conditional, Waiting as waiting}

-- A2: a kind's byte
unfoldable pub kind_number : Kind → ℕ
kind_number task = 1
kind_number serial = 2
kind_number and = 3
kind_number or = 4
kind_number xor = 5
kind_number contingency = 6
kind_number conditional = 7
kind_number waiting = 8

-- A2: k and j are the same kind
unfoldable pub is_kind : Kind → Kind → Bool
is_kind k j = eqb (kind_number k) (kind_number j)

-- A2: the kind of a byte; a byte that is no kind, which only a refused plan has, is read as a task's
unfoldable pub kind_of : ℕ → Kind
kind_of k =
    cond (eqb k 2) serial
    (cond (eqb k 3) and
    (cond (eqb k 4) or
    (cond (eqb k 5) xor
    (cond (eqb k 6) contingency
    (cond (eqb k 7) conditional
    (cond (eqb k 8) waiting task))))))

-- A1: the number of nodes, two bytes each
unfoldable pub size : List ℕ → ℕ
size p = length p / 2

-- A1: v's first byte
unfoldable pub kind_byte : List ℕ → ℕ → ℕ
kind_byte p v = get_or p (2 * v) 0

-- A2: v's kind
unfoldable pub kind : List ℕ → ℕ → Kind
kind p v = kind_of (kind_byte p v)

-- A1, A3: v's second byte, its parent; of the root it is 255, which is no node
unfoldable pub parent : List ℕ → ℕ → ℕ
parent p v = get_or p (2 * v + 1) 0

-- A4: v's children among the nodes below n, rising. Node 0 is nobody's child
unfoldable pub children_below : List ℕ → ℕ → ℕ → List ℕ
children_below p n v = keep (λ c. eqb (parent p c) v) (up_from 1 (pred n))

-- A4: all of them
unfoldable pub children : List ℕ → ℕ → List ℕ
children p v = children_below p (size p) v

-- A5: their number
unfoldable pub child_count : List ℕ → ℕ → ℕ
child_count p v = length (children p v)

-- A4: the other children of v's parent, rising (the siblings of C6 and C8)
unfoldable pub others : List ℕ → ℕ → List ℕ
others p v = keep (λ c. not (eqb c v)) (children p (parent p v))

-- A3: the kind of v's parent; a task for the root, which is no block's child
unfoldable pub above : List ℕ → ℕ → Kind
above p v = cond (eqb v 0) task (kind p (parent p v))

-- A3: the same as a byte
unfoldable pub above_byte : List ℕ → ℕ → ℕ
above_byte p v = cond (eqb v 0) 1 (kind_byte p (parent p v))

-- A3: v is a child of an xor
unfoldable pub in_xor : List ℕ → ℕ → Bool
in_xor p v = is_kind xor (above p v)

-- A6: v's depth if the root is at most so many nodes up
unfoldable pub depth_within : ℕ → List ℕ → ℕ → ℕ
depth_within zero p v = 0
depth_within (suc nodes) p v = cond (eqb v 0) 1 (suc (depth_within nodes p (parent p v)))

-- A6: the root has depth 1, another node its parent's plus 1 (specs/Check.antt, DepthSteps)
unfoldable pub depth : List ℕ → ℕ → ℕ
depth p v = depth_within (suc v) p v
