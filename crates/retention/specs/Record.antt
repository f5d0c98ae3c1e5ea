-- The record of a job (rules G): every node's mark and retention class, which the paper calls filing class, by a table from marks to classes.
-- Definitions only.
use Rattle.std.specs.Prelude.{Bool, cond, ◌&&◌, ◌||◌, not, List, [], ◌∷◌, ℕ, zero, suc, ◌+◌, ◌*◌, eqb, leb, length, get_or}
use Rattle.lists.specs.Seq.{all, any, all_below, table}
use Rattle.plan.specs.Plan.{is_kind, kind, parent, size}
use Rattle.plan.specs.declared.kinds.Kind.TheVariants.{Task as task}

-- G1: the table where the house hands in none: frames of a mark and its class
unfoldable pub common_table : List ℕ
common_table = 0 ∷ 0 ∷ 1 ∷ 3 ∷ 2 ∷ 3 ∷ 3 ∷ 1 ∷ 4 ∷ 2 ∷ 5 ∷ 2 ∷ []

-- G4: frame i is mark i and a class, 0 to 3
unfoldable pub frame_ok : List ℕ → ℕ → Bool
frame_ok tab i = eqb (get_or tab (2 * i) 0) i && leb (get_or tab (2 * i + 1) 0) 3

-- G4: six such frames, and mark 0 has class 0
unfoldable pub table_ok : List ℕ → Bool
table_ok tab = eqb (length tab) 12 && eqb (get_or tab 1 0) 0 && all_below (frame_ok tab) 6

-- H21: 0, or 21
unfoldable pub table_number : List ℕ → ℕ
table_number tab = cond (table_ok tab) 0 21

-- G1: the class that a table has for a mark
unfoldable pub class_of : List ℕ → ℕ → ℕ
class_of tab mark = get_or tab (2 * mark + 1) 0

-- G5: the nodes above v, its parent first, at most so many; and all of them, since parents have lower numbers
unfoldable pub above_within : ℕ → List ℕ → ℕ → List ℕ
above_within zero p v = []
above_within (suc nodes) p v = cond (eqb v 0) [] (parent p v ∷ above_within nodes p (parent p v))

unfoldable pub nodes_above : List ℕ → ℕ → List ℕ
nodes_above p v = above_within v p v

-- G5: the mark of a node that failed or was turned down
unfoldable pub fell : ℕ → Bool
fell m = eqb m 4 || eqb m 5

-- G5: the mark as which a committed node v counts: turned down if a node above fell, else offered if one is not committed
unfoldable pub counts_above : List ℕ → List ℕ → ℕ → ℕ
counts_above p marks v =
    cond (any (λ u. fell (get_or marks u 0)) (nodes_above p v)) 5
    (cond (all (λ u. eqb (get_or marks u 0) 3) (nodes_above p v)) 3
    2)

-- G5: any other node counts as what it is marked
unfoldable pub counts_as : List ℕ → List ℕ → ℕ → ℕ
counts_as p marks v = cond (eqb (get_or marks v 0) 3) (counts_above p marks v) (get_or marks v 0)

-- G1, G2: the class of node v by a table, by the marks of all nodes; a block's is 0
unfoldable pub class : List ℕ → List ℕ → List ℕ → ℕ → ℕ
class p tab marks v = cond (is_kind task (kind p v)) (class_of tab (counts_as p marks v)) 0

-- G3: every node's mark and class
pub record Record : Type 0 where
  pub marks : List ℕ
  pub classes : List ℕ

-- G3: the record by a table and a list of marks
unfoldable pub record_of : List ℕ → List ℕ → List ℕ → Record
record_of p tab marks = record { marks = marks; classes = table (class p tab marks) (size p) }

-- G3: every node's class, in a buffer of one byte a node; at any other length, or above 160 nodes, it stays
unfoldable pub classes_into : List ℕ → List ℕ → List ℕ → List ℕ → List ℕ
classes_into p tab marks c = cond (not (leb (size p) 160 && eqb (length c) (size p))) c (record_of p tab marks).classes

-- G3: what a call for a record answers and leaves: its number, and the bytes lent for marks and classes
pub record Recorded : Type 0 where
  pub number : ℕ
  pub marks : List ℕ
  pub classes : List ℕ

abbrev pub recorded : ℕ → List ℕ → List ℕ → Recorded
recorded n m c = record { number = n; marks = m; classes = c }

-- G3: the record in both buffers
abbrev pub recorded_as : Record → Recorded
recorded_as r = recorded 0 r.marks r.classes
