-- Events, and which of them apply to a node (rules B). Definitions only.
use Rattle.std.specs.Prelude.{Bool, true, cond, ◌&&◌, List, ℕ, eqb, ltb, leb}
use Rattle.lists.specs.Seq.{any}
use Rattle.plan.specs.Plan.{is_kind, kind, size, in_xor}
use Rattle.plan.specs.declared.kinds.Kind.{Kind}
use Rattle.plan.specs.declared.kinds.Kind.TheVariants.{Conditional as conditional}

-- B1: the eight codes
pub data Code : Type 0 where
  start offer commit abort answered-yes answered-no pick down : Code

-- B1: a code's number
unfoldable pub code_number : Code → ℕ
code_number start = 1
code_number offer = 2
code_number commit = 3
code_number abort = 4
code_number answered-yes = 5
code_number answered-no = 6
code_number pick = 7
code_number down = 8

-- B1: a number's code; 8 and all that is no code give the last one
unfoldable pub code_of : ℕ → Code
code_of n =
    cond (eqb n 1) start
    (cond (eqb n 2) offer
    (cond (eqb n 3) commit
    (cond (eqb n 4) abort
    (cond (eqb n 5) answered-yes
    (cond (eqb n 6) answered-no
    (cond (eqb n 7) pick down))))))

-- B1: the numbers of codes
unfoldable pub is_code : ℕ → Bool
is_code n = leb 1 n && leb n 8

-- B1: the same code
unfoldable pub same_code : Code → Code → Bool
same_code c d = eqb (code_number c) (code_number d)

-- B1: an event is a code and a node
pub record Event : Type 0 where
  pub code : Code
  pub node : ℕ

abbrev pub at : Code → ℕ → Event
at c v = record { code = c; node = v }

-- B1: the event of a code's number and a node's
abbrev pub event_of : ℕ → ℕ → Event
event_of code node = at (code_of code) node

-- B1: the same event
unfoldable pub same : Event → Event → Bool
same e f = same_code e.code f.code && eqb e.node f.node

-- I3: e is among es
unfoldable pub among : List Event → Event → Bool
among es e = any (λ f. same f e) es

-- B2: by the code, the node's kind, and whether the node is a child of an xor
unfoldable pub applies_by : Code → Kind → Bool → Bool
applies_by start k x = true
applies_by offer k x = x
applies_by commit k x = true
applies_by abort k x = true
applies_by answered-yes k x = is_kind conditional k
applies_by answered-no k x = is_kind conditional k
applies_by pick k x = x
applies_by down k x = x

-- B2: for an event of the plan
unfoldable pub applies : List ℕ → Event → Bool
applies p e = ltb e.node (size p) && applies_by e.code (kind p e.node) (in_xor p e.node)

-- H8: the number is a code, and the node is in the plan
unfoldable pub known : List ℕ → ℕ → ℕ → Bool
known p code node = is_code code && ltb node (size p)
