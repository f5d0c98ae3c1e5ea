-- An event that applies happens at a site of the plan. Assumes nothing.
use mathlib.Core.Path.{◌≡◌, refl}
use mathlib.Core.Bool.{Bool, true, false, cond, false≢true}
use mathlib.Core.List.{List}
use Prim.Native.Nat.{ℕ, ◌<◌}
use native.Mathlib.Omega.{arith}
use borrow.Author.Tests.{eqb-false, ltb-true}
use lib.Dec.{eqb, ltb}
use Rattle.lists.proofs.Logic.{and_left, and_right}
use Rattle.plan.specs.Plan.{kind_number, is_kind, kind, size, parent, above, in_xor}
use Rattle.plan.specs.declared.kinds.Kind.TheVariants.{Task as task, Xor as xor}
use Rattle.plan.specs.Check.{Accepted}
use Rattle.event.specs.Event.{Code, start, offer, commit, abort, answered-yes, answered-no, pick, down, Event, applies_by, applies}
use Rattle.event.specs.Site.{host_by, host_of}

-- the root is no xor's child
pub xor-later : (p : List ℕ) (v : ℕ) → in_xor p v ≡ true → 0 < v
unfolding in_xor above is_kind kind_number
xor-later p v h = go (eqb v 0) refl h
  where
    go : (b : Bool) → eqb v 0 ≡ b → is_kind xor (cond b task (kind p (parent p v))) ≡ true → 0 < v
    go true e h = absurd (false≢true h)
    go false e h = omega (arith, eqb-false v 0 e)

module _ (p : List ℕ) (ok : Accepted p) where
  host-by : (c : Code) (v : ℕ) → v < size p → applies_by c (kind p v) (in_xor p v) ≡ true → host_by c v (parent p v) < size p
  unfolding host_by applies_by
  host-by start v l a = l
  host-by offer v l a = l
  host-by commit v l a = l
  host-by abort v l a = l
  host-by answered-yes v l a = l
  host-by answered-no v l a = l
  host-by pick v l a = let b = ok.below v (xor-later p v a) l in omega arith
  host-by down v l a = l

  pub host-in : (e : Event) → applies p e ≡ true → host_of p e < size p
  unfolding host_of applies
  host-in e a = host-by e.code e.node (ltb-true e.node (size p) (and_left _ _ a)) (and_right (ltb e.node (size p)) _ a)
