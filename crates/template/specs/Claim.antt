-- THE CLAIMS of rules S. Definitions only.
use Rattle.std.specs.Prelude.{◌≡◌, true, cond, List, ◌++◌, ◌⊎◌, ◌↔◌, ℕ, suc, ◌+◌, ◌*◌, ◌≤◌, ◌<◌, eqb, leb, length, drop}
use Rattle.plan.specs.Plan.{size, kind_byte, parent, children}
use Rattle.plan.specs.Check.{Accepted, check_number, fit_number}
use Rattle.plan.specs.Under.{Under}
use Rattle.plan.specs.Made.{made}
use Rattle.trees.specs.Tree.{trees_of, trees_below, tree_of, node_count}
use Rattle.trees.specs.Numbering.{renumbered, in_preorder}
use Rattle.template.specs.Repeat.{times, repeated_below, repeated_tree, repeated, moved}
use Rattle.template.specs.Call.{repeat_of}

-- S1: the plan p with the marked node m
pub record Template (p : List ℕ) (m : ℕ) : Type 0 where
  pub accepted : Accepted p
  pub node : m < size p
  pub block : (kind_byte p m ≡ 3) ⊎ ((kind_byte p m ≡ 4) ⊎ ((kind_byte p m ≡ 5) ⊎ (kind_byte p m ≡ 8)))
  pub one : length (children p m) ≡ 1

-- S2: what is below each node of the repeated tree, without a bound on the levels
pub record Steps (p : List ℕ) (m r : ℕ) : Type 0 where
  pub marked : m < size p → repeated_below p m r m ≡ times r (trees_below p m)
  pub other : (v : ℕ) → v < size p → (v ≡ m → ⊥) → repeated_below p m r v ≡ trees_of (kind_byte p) (repeated_below p m r) (children p v)

-- CLAIM (S2)
abbrev pub RepeatSteps : Type 0
RepeatSteps = (p : List ℕ) → Accepted p → (m r : ℕ) → Steps p m r

-- CLAIM (S3). For every time behind the first there are as many nodes more as the marked node has below it, which is its child's subtree.
abbrev pub RepeatCount : Type 0
RepeatCount = (p : List ℕ) → Accepted p → (m : ℕ) → m < size p → (i : ℕ) → node_count (repeated_tree p m (suc i)) ≡ size p + i * node_count (trees_below p m)

-- CLAIM (S4). What is written is accepted, or has too many nodes: the check finds nothing else.
abbrev pub RepeatChecked : Type 0
RepeatChecked = (p : List ℕ) (m r : ℕ) → Template p m → 1 ≤ r → r ≤ 32 → check_number (repeated p m r) ≡ cond (leb (node_count (repeated_tree p m r)) 160) 0 1

-- S2, S5: q is the template p, repeated r times below m: accepted, of the repeated tree, and in the fixed numbering
pub record IsRepeated (p : List ℕ) (m r : ℕ) (q : List ℕ) : Type 0 where
  pub accepted : Accepted q
  pub same : tree_of q ≡ repeated_tree p m r
  pub ordered : in_preorder q ≡ true

-- MAIN CLAIM (S5). A template repeated with up to 160 nodes is such a plan, and there is no other.
abbrev pub RepeatRight : Type 0
RepeatRight = (p : List ℕ) (m r : ℕ) → Template p m → 1 ≤ r → r ≤ 32 → node_count (repeated_tree p m r) ≤ 160 →
    (q : List ℕ) → (q ≡ repeated p m r) ↔ IsRepeated p m r q

-- CLAIM (S7)
abbrev pub RepeatOnce : Type 0
RepeatOnce = (p : List ℕ) → Accepted p → (m : ℕ) → repeated p m 1 ≡ renumbered p

-- S9: node v of p stands in q s numbers later; of its parent's number, what is from x on moves along
pub record Moves (p q : List ℕ) (x s v : ℕ) : Type 0 where
  pub kinds : kind_byte q (v + s) ≡ kind_byte p v
  pub parents : parent q (v + s) ≡ moved x s (parent p v)

-- S9: where the nodes of p stand in q, if i times are added below m: m's subtree in p; in q the nodes up to m, the copies of those below m, and
-- those behind them
pub record Places (p : List ℕ) (m i : ℕ) (q : List ℕ) : Type 0 where
  pub block : (v : ℕ) → v < size p → Under p m v ↔ ((m ≤ v) × (v ≤ m + node_count (trees_below p m)))
  pub before : (v : ℕ) → v ≤ m → (kind_byte q v ≡ kind_byte p v) × (parent q v ≡ parent p v)
  pub copies : (v c : ℕ) → m < v → v ≤ m + node_count (trees_below p m) → c ≤ i → Moves p q (suc m) (c * node_count (trees_below p m)) v
  pub behind : (v : ℕ) → m + node_count (trees_below p m) < v → v < size p → Moves p q (suc m) (i * node_count (trees_below p m)) v

-- CLAIM (S9). Where each node of a template in the fixed numbering stands.
abbrev pub RepeatPlaces : Type 0
RepeatPlaces = (p : List ℕ) → Accepted p → in_preorder p ≡ true → (m : ℕ) → m < size p → (i : ℕ) → Places p m i (repeated p m (suc i))

-- S6, S8: with the bytes out lent, the plan q is left in front of them, and n is its number of nodes
pub record AsRepeated (p : List ℕ) (m r : ℕ) (out : List ℕ) (n : ℕ) (out' : List ℕ) : Type 0 where
  pub template : Template p m
  pub long : length out ≡ 320
  pub some : 1 ≤ r
  pub most : r ≤ 32
  pub plan : List ℕ
  pub right : IsRepeated p m r plan
  pub nodes : n ≡ size plan
  pub left : out' ≡ plan ++ drop (length plan) out

-- CLAIM (S6, S8). When a call passes, and what it then answers and leaves.
abbrev pub RepeatCall : Type 0
RepeatCall = (p : List ℕ) (m r : ℕ) (out : List ℕ) (n : ℕ) (out' : List ℕ) → (repeat_of p m r out ≡ made 0 n out') ↔ AsRepeated p m r out n out'

-- S6, H0, H27: every number, where none before it fits; the lent bytes are left
pub record Numbers (p : List ℕ) (m r : ℕ) (out : List ℕ) : Type 0 where
  pub by-lent : (fit_number p (eqb (length out) 320) ≡ 0 → ⊥) → repeat_of p m r out ≡ made (fit_number p (eqb (length out) 320)) 0 out
  pub by-node : Accepted p → length out ≡ 320 → size p ≤ m → repeat_of p m r out ≡ made 8 0 out
  pub by-mark : Accepted p → length out ≡ 320 → m < size p → (Template p m → ⊥) → repeat_of p m r out ≡ made 23 0 out
  pub by_count : Template p m → length out ≡ 320 → (r ≡ 0) ⊎ (32 < r) → repeat_of p m r out ≡ made 24 0 out
  pub by-nodes : Template p m → length out ≡ 320 → 1 ≤ r → r ≤ 32 → 160 < node_count (repeated_tree p m r) → repeat_of p m r out ≡ made 25 0 out

-- CLAIM (S6)
abbrev pub RepeatNumbers : Type 0
RepeatNumbers = (p : List ℕ) (m r : ℕ) (out : List ℕ) → Numbers p m r out
