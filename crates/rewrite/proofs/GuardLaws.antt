-- The guards of a rewritten plan, row by row. Assumes nothing.
use mathlib.Core.Path.{◌≡◌, refl}
use mathlib.Core.Bool.{cond, ◌&&◌}
use mathlib.Core.List.{List, [], ◌∷◌, ◌++◌}
use Prim.Native.Nat.{ℕ}
use Rattle.plan.specs.Plan.{kind_number, is_kind, kind, parent, children, above}
use Rattle.plan.specs.declared.kinds.Kind.{Kind}
use Rattle.plan.specs.declared.kinds.Kind.TheVariants.{Task as task, Serial as serial, And as and, Or as or, Xor as xor, Contingency as contingency, Conditional as conditional, Waiting as waiting}
use Rattle.event.specs.Event.{Code, start, offer, commit, abort, answered-yes, answered-no, pick, down, code_number, same_code, Event}
use Rattle.guard.specs.Guard.{each, any_of, start_by, finish_by, abort_by, finishing, aborting, guard_by, guard}
use Rattle.rewrite.specs.Rewrite.{rewritten}
use Rattle.rewrite.specs.Kept.{old_guard}
use Rattle.rewrite.proofs.PlanLaws.{renewed, parent-at, kind_at, above_at, xor-at, children-at, others-at}

start-renewed : (k : Kind) (u : ℕ) (cs : List ℕ) (v : ℕ) → start_by (renewed k) u cs v ≡ start_by k u cs v
unfolding renewed is_kind kind_number start_by
start-renewed task u cs v = refl
start-renewed serial u cs v = refl
start-renewed and u cs v = refl
start-renewed or u cs v = refl
start-renewed xor u cs v = refl
start-renewed contingency u cs v = refl
start-renewed conditional u cs v = refl
start-renewed waiting u cs v = refl

finish-renewed : (k : Kind) (v : ℕ) (cs : List ℕ) → finish_by (renewed k) v cs ≡ finish_by k v cs
unfolding renewed is_kind kind_number finish_by
finish-renewed task v cs = refl
finish-renewed serial v cs = refl
finish-renewed and v cs = refl
finish-renewed or v cs = refl
finish-renewed xor v cs = refl
finish-renewed contingency v cs = refl
finish-renewed conditional v cs = refl
finish-renewed waiting v cs = refl

abort-renewed : (k : Kind) (v : ℕ) (cs : List ℕ) → abort_by (renewed k) v cs ≡ cond (is_kind and k) (each (commit ∷ abort ∷ []) cs ++ any_of abort cs) (abort_by k v cs)
unfolding renewed is_kind kind_number abort_by
abort-renewed task v cs = refl
abort-renewed serial v cs = refl
abort-renewed and v cs = refl
abort-renewed or v cs = refl
abort-renewed xor v cs = refl
abort-renewed contingency v cs = refl
abort-renewed conditional v cs = refl
abort-renewed waiting v cs = refl

module _ (p : List ℕ) where
  finishing-kept : (v : ℕ) → finishing (rewritten p) v ≡ finishing p v
  unfolding finishing
  finishing-kept v = rw (kind_at p v, children-at p v) (finish-renewed (kind p v) v (children p v))

  by_code : (c : Code) (v : ℕ) →
      guard_by (rewritten p) c v
      ≡ cond (same_code abort c && is_kind and (kind p v)) (each (commit ∷ abort ∷ []) (children p v) ++ any_of abort (children p v)) (guard_by p c v)
  unfolding guard_by same_code code_number aborting
  by_code start v = rw (above_at p v, parent-at p v, children-at p (parent p v)) (start-renewed (above p v) (parent p v) (children p (parent p v)) v)
  by_code offer v = finishing-kept v
  by_code commit v = rw (xor-at p v, finishing-kept v)
  by_code abort v = rw (kind_at p v, children-at p v) (abort-renewed (kind p v) v (children p v))
  by_code answered-yes v = refl
  by_code answered-no v = refl
  by_code pick v = refl
  by_code down v = rw (others-at p v)

  pub guards-kept : (e : Event) → guard (rewritten p) e ≡ old_guard p e
  unfolding guard old_guard
  guards-kept e = by_code e.code e.node
