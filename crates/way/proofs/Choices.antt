-- The pass's own walk over a block's children with every choice left open. Definitions only.
use mathlib.Core.Bool.{Bool, true, false, cond, ◌&&◌, ◌||◌}
use mathlib.Core.List.{List, [], ◌∷◌}
use Prim.Native.Nat.{ℕ}
use Rattle.plan.specs.declared.kinds.Kind.{Kind}
use Rattle.pass.specs.Pass.{Outcome, works, breaks, fault, Tally, goes, note, skip, child_mark, end_of}

-- equal, and no fault
unfoldable pub same_end : Outcome → Outcome → Bool
same_end works works = true
same_end works breaks = false
same_end works (fault n) = false
same_end breaks works = false
same_end breaks breaks = true
same_end breaks (fault n) = false
same_end (fault m) o = false

-- from tally t on some marks that the children cs can have make the block end as o
unfoldable pub may_end : (ℕ → ℕ → Bool) → Kind → ℕ → List ℕ → Tally → Outcome → Bool
may_end can k x [] t o = same_end (end_of k x t) o
may_end can k x (c ∷ cs) t o = cond (goes k x t)
    ((can c (child_mark k x t works) && may_end can k x cs (note x t works) o) || (can c (child_mark k x t breaks) && may_end can k x cs (note x t breaks) o))
    (can c 0 && may_end can k x cs (skip t) o)
