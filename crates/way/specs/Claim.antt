-- THE CLAIMS of rules Q: the list given leads to the target, is the smallest that does, and none is refused that could be had. Definitions only.
use Rattle.std.specs.Prelude.{◌≡◌, List, ◌⊎◌, ℕ, ◌<◌, ◌≤◌, eqb, length, get_or}
use Rattle.lists.specs.Bytes.{Bytes}
use Rattle.plan.specs.Plan.{size}
use Rattle.plan.specs.Check.{Accepted, fit_number}
use Rattle.pass.specs.Pass.{pass}
use Rattle.pass_nodes.specs.Nodes.{pass_mark, Read}
use Rattle.lists.specs.Smallest.{Less}
use Rattle.way.specs.Way.{way_result, way_into}

-- Q1: mark m for node v of the plan, and end e
pub record Target (p : List ℕ) (v m e : ℕ) : Type 0 where
  pub node : v < size p
  pub mark : (m ≡ 0) ⊎ ((m ≡ 3) ⊎ ((m ≡ 4) ⊎ (m ≡ 5)))
  pub end : (e ≡ 3) ⊎ (e ≡ 4)

-- Q2: the answers a lead there
pub record LeadsTo (p : List ℕ) (v m e : ℕ) (a : List ℕ) : Type 0 where
  pub bytes : Bytes (size p) a
  pub accepted : (pass p a).number ≡ 0
  pub mark : pass_mark p a v ≡ m
  pub end : pass_mark p a 0 ≡ e

-- Q4, Q5: l is the way
pub record IsWay (p : List ℕ) (v m e : ℕ) (l : List ℕ) : Type 0 where
  pub leads : LeadsTo p v m e l
  -- Q4: no other list that leads there is smaller
  pub least : (a : List ℕ) → LeadsTo p v m e a → (l ≡ a) ⊎ Less l a
  -- Q5: what the pass does not read is 0
  pub unread : (w : ℕ) → w < size p → (Read p l w → ⊥) → get_or l w 0 ≡ 0

-- Q6, Q7: a call that passed, with the answers a, leaves l
pub record Shown (p : List ℕ) (v m e : ℕ) (a l : List ℕ) : Type 0 where
  pub accepted : Accepted p
  pub long : length a ≡ size p
  pub target : Target p v m e
  pub is-way : IsWay p v m e l

-- MAIN CLAIM (Q4 to Q7)
abbrev pub WayRight : Type 0
WayRight = (p : List ℕ) (v m e : ℕ) (a l : List ℕ) → way_into p v m e a ≡ way_result 0 l → Shown p v m e a l

-- Q6, Q7: where there is a way, the call passes and leaves it, whatever the answers were
abbrev pub WayPasses : Type 0
WayPasses = (p : List ℕ) → Accepted p → (v m e : ℕ) → Target p v m e → (l : List ℕ) → IsWay p v m e l →
    (a : List ℕ) → length a ≡ size p → way_into p v m e a ≡ way_result 0 l

-- Q2, Q4: and there is one where any list leads there
abbrev pub WayThere : Type 0
WayThere = (p : List ℕ) → Accepted p → (v m e : ℕ) → Target p v m e → (a : List ℕ) → LeadsTo p v m e a → (l : List ℕ) × IsWay p v m e l

-- Q6, H0, H25: every number, where none before it fits; the answers are left
pub record Numbers (p : List ℕ) (v m e : ℕ) (a : List ℕ) : Type 0 where
  pub by-lent : (fit_number p (eqb (length a) (size p)) ≡ 0 → ⊥) → way_into p v m e a ≡ way_result (fit_number p (eqb (length a) (size p))) a
  pub by-node : Accepted p → length a ≡ size p → size p ≤ v → way_into p v m e a ≡ way_result 8 a
  pub by-target : Accepted p → length a ≡ size p → v < size p → (Target p v m e → ⊥) → way_into p v m e a ≡ way_result 29 a
  pub by-none : Accepted p → length a ≡ size p → Target p v m e → ((b : List ℕ) → LeadsTo p v m e b → ⊥) → way_into p v m e a ≡ way_result 30 a

-- CLAIM (Q6, Q7)
abbrev pub WayNumbers : Type 0
WayNumbers = (p : List ℕ) (v m e : ℕ) (a : List ℕ) → Numbers p v m e a

-- Q6: to a target there is a way or there is none
abbrev pub WayOrNone : Type 0
WayOrNone = (p : List ℕ) → Accepted p → (v m e : ℕ) → Target p v m e → (a : List ℕ) → length a ≡ size p →
    ((l : List ℕ) × (way_into p v m e a ≡ way_result 0 l)) ⊎ (way_into p v m e a ≡ way_result 30 a)

-- Q7: 30 only where no list leads there
abbrev pub NoWay : Type 0
NoWay = (p : List ℕ) (v m e : ℕ) (a b : List ℕ) → way_into p v m e a ≡ way_result 30 b → (l : List ℕ) → LeadsTo p v m e l → ⊥

-- Q4: there is one way at most
abbrev pub OneWay : Type 0
OneWay = (p : List ℕ) (v m e : ℕ) (l k : List ℕ) → IsWay p v m e l → IsWay p v m e k → l ≡ k

-- Q8: every node can commit, and every node can fail, with the job
abbrev pub EveryNode : Type 0
EveryNode = (p : List ℕ) → Accepted p → (v m : ℕ) → v < size p → (m ≡ 3) ⊎ (m ≡ 4) → (l : List ℕ) × IsWay p v m m l
