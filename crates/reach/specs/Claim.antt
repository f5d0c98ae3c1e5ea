-- THE CLAIMS of rules O: how far one result reaches, and that the call goes no farther. Definitions only.
use Rattle.std.specs.Prelude.{◌≡◌, List, ◌⊎◌, ◌↔◌, ℕ, ◌<◌, ◌≤◌, length, get_or, set}
use Rattle.plan.specs.Plan.{kind, size}
use Rattle.plan.specs.declared.kinds.Kind.TheVariants.{Task as task, Xor as xor}
use Rattle.plan.specs.Check.{Accepted}
use Rattle.plan.specs.Under.{Under, Below}
use Rattle.pass.specs.Pass.{pass_result, pass, pass_number, pass_into}
use Rattle.pass_nodes.specs.Nodes.{pass_mark}
use Rattle.retention.specs.Record.{class}
use Rattle.reach.specs.Reach.{OneTask, InReach}
use Rattle.reach.specs.Impact.{impact_number, impact_into}

-- O2 to O4: what two lists of answers that differ at the task t do to the marks
pub record WithinReach (p a b : List ℕ) (t : ℕ) : Type 0 where
  -- O2: a mark differs in the task's reach only
  pub reach : (w : ℕ) → w < size p → (pass_mark p a w ≡ pass_mark p b w) ⊎ InReach p t w
  -- O3: where the task or a block above it keeps its mark, so does all that is not below it
  pub outside : (u : ℕ) → Under p u t → pass_mark p a u ≡ pass_mark p b u → (w : ℕ) → w < size p → (Below p u w → ⊥) → pass_mark p a w ≡ pass_mark p b w
  -- O3: all blocks above among it
  pub above : (u : ℕ) → Under p u t → pass_mark p a u ≡ pass_mark p b u → (w : ℕ) → Under p w u → pass_mark p a w ≡ pass_mark p b w
  -- O4: an xor above the task keeps its mark
  pub xors : (u : ℕ) → Under p u t → kind p u ≡ xor → pass_mark p a u ≡ pass_mark p b u

-- MAIN CLAIM (O1 to O4)
abbrev pub ChangeWithinReach : Type 0
ChangeWithinReach = (p : List ℕ) → Accepted p → (a b : List ℕ) (t : ℕ) → OneTask p a b t → WithinReach p a b t

-- O5: by one table, and for any marks m and n, a class differs only at a task, where its mark differs or that of a block above it
abbrev pub ClassesReach : Type 0
ClassesReach = (p : List ℕ) → Accepted p → (tab m n : List ℕ) (w : ℕ) → w < size p →
    (class p tab m w ≡ class p tab n w) ⊎ ((kind p w ≡ task) × ((u : ℕ) × Under p u w × (get_or m u 0 ≡ get_or n u 0 → ⊥)))

-- O6 to O8: what a call that passed has met, and what it leaves
pub record Changed (p a m : List ℕ) (t x : ℕ) (n : List ℕ) : Type 0 where
  -- O6: the marks handed in were the pass's, one byte a node, the new answer was a byte, and O1 holds
  pub old : pass_into p a m ≡ pass_result 0 m
  pub byte : x ≤ 255
  pub one-task : OneTask p a (set a t x) t
  -- O7: the marks are those of the pass over the new answers
  pub new : (r : List ℕ) → length r ≡ size p → pass_into p (set a t x) r ≡ pass_result 0 n
  -- O7: only the task's reach was written
  pub reach : (w : ℕ) → w < size p → (get_or n w 0 ≡ get_or m w 0) ⊎ InReach p t w
  -- O8: it can be changed back
  pub back : get_or a t 0 ≤ 255 → impact_into p (set a t x) n t (get_or a t 0) ≡ pass_result 0 m

-- MAIN CLAIM (O6 to O8)
abbrev pub ImpactRight : Type 0
ImpactRight = (p a m : List ℕ) (t x : ℕ) (n : List ℕ) → impact_into p a m t x ≡ pass_result 0 n → Changed p a m t x n

-- O6, O7: where what `Changed` asks is there, the call passes
abbrev pub ImpactPasses : Type 0
ImpactPasses = (p a m : List ℕ) (t x : ℕ) → pass_into p a m ≡ pass_result 0 m → x ≤ 255 → OneTask p a (set a t x) t →
    impact_into p a m t x ≡ pass_result 0 (pass p (set a t x)).marks

-- O6: the plan, the lengths and the task are right
abbrev pub Asked : List ℕ → List ℕ → List ℕ → ℕ → Type 0
Asked p a m t = (pass_number p a m ≡ 0) × (t < size p) × (kind p t ≡ task)

-- O6, H0: every number, where none before it fits
pub record Numbers (p a m : List ℕ) (t x : ℕ) : Type 0 where
  -- 1 to 7 as the pass has them, then 8 and 9
  pub by-lent : (pass_number p a m ≡ 0 → ⊥) → impact_number p a m t x ≡ pass_number p a m
  pub by-node : pass_number p a m ≡ 0 → size p ≤ t → impact_number p a m t x ≡ 8
  pub by_kind : pass_number p a m ≡ 0 → t < size p → (kind p t ≡ task → ⊥) → impact_number p a m t x ≡ 9
  -- 13 or 14 of the answers, then of the new one and of the list that has it
  pub by_old : Asked p a m t → ((pass p a).number ≡ 0 → ⊥) → impact_number p a m t x ≡ (pass p a).number
  pub by_byte : Asked p a m t → (pass p a).number ≡ 0 → 255 < x → impact_number p a m t x ≡ 13
  pub by-new : Asked p a m t → (pass p a).number ≡ 0 → x ≤ 255 → ((pass p (set a t x)).number ≡ 0 → ⊥) → impact_number p a m t x ≡ (pass p (set a t x)).number
  -- 28
  pub by-marks : Asked p a m t → OneTask p a (set a t x) t → x ≤ 255 → (m ≡ (pass p a).marks → ⊥) → impact_number p a m t x ≡ 28
  -- H: a refused call leaves the marks
  pub kept : (impact_number p a m t x ≡ 0 → ⊥) → impact_into p a m t x ≡ pass_result (impact_number p a m t x) m

-- CLAIM (O6)
abbrev pub ImpactNumbers : Type 0
ImpactNumbers = (p a m : List ℕ) (t x : ℕ) → Numbers p a m t x

-- O6: any byte is free at a task that the pass does not reach, and changes nothing
abbrev pub ImpactUnread : Type 0
ImpactUnread = (p a m : List ℕ) (t x : ℕ) → t < size p → kind p t ≡ task → pass_into p a m ≡ pass_result 0 m → pass_mark p a t ≡ 0 → x ≤ 255 →
    impact_into p a m t x ≡ pass_result 0 m

-- O8: with the answer that is there already, the call passes just where the pass does and leaves these marks, and it leaves them too
abbrev pub ImpactNone : Type 0
ImpactNone = (p a m : List ℕ) (t : ℕ) → t < size p → kind p t ≡ task → get_or a t 0 ≤ 255 →
    (impact_into p a m t (get_or a t 0) ≡ pass_result 0 m) ↔ (pass_into p a m ≡ pass_result 0 m)
