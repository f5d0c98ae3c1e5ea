-- THE CLAIM of merging (rule V11): it is a join of rows. Definitions only.
use Rattle.std.specs.Prelude.{◌≡◌, true, List, ◌↔◌, ◌⊎◌, ℕ}
use Rattle.lists.specs.Bytes.{Bytes}
use Rattle.event.specs.Event.{Event}
use Rattle.row.specs.Row.{heard}
use Rattle.merge.specs.Merge.{merged}

-- V11: for rows of n bytes
pub record Join (n : ℕ) : Type 0 where
  pub kept : (a b : List ℕ) → Bytes n a → Bytes n b → Bytes n (merged a b)
  -- the merged row has just what one of the two has
  pub either : (a b : List ℕ) → Bytes n a → Bytes n b → (e : Event) → (heard (merged a b) e ≡ true) ↔ ((heard a e ≡ true) ⊎ (heard b e ≡ true))
  -- merged twice, in either order, or in other groups: the same bytes
  pub same : (a : List ℕ) → Bytes n a → merged a a ≡ a
  pub swap : (a b : List ℕ) → Bytes n a → Bytes n b → merged a b ≡ merged b a
  pub regroup : (a b c : List ℕ) → Bytes n a → Bytes n b → Bytes n c → merged (merged a b) c ≡ merged a (merged b c)

-- CLAIM (V11)
abbrev pub MergeJoins : Type 0
MergeJoins = (n : ℕ) → Join n
