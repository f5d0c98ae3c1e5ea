-- Every guard of an accepted plan fits into 290 bytes. Assumes nothing.
use mathlib.Core.Path.{ap}
use mathlib.Core.Bool.{Bool, true, false, cond, not}
use mathlib.Core.List.{List, [], ◌∷◌, ◌++◌, map}
use Prim.Native.Nat.{ℕ, ◌≤◌}
use native.Mathlib.Omega.{arith}
use borrow.Author.Tests.{ltb-true, ltb-false}
use lib.Dec.{eqb, ltb}
use lib.ListN.{length, length-append}
use Rattle.lists.proofs.Logic.{cases, decided}
use Rattle.lists.proofs.Members.{none_in}
use Rattle.lists.proofs.Keep.{keep-short}
use Rattle.plan.specs.Plan.{size, kind, in_xor, parent, children, others}
use Rattle.plan.specs.declared.kinds.Kind.{Kind}
use Rattle.plan.specs.declared.kinds.Kind.TheVariants.{Task as task, Serial as serial, And as and, Or as or, Xor as xor, Contingency as contingency, Conditional as conditional, Waiting as waiting}
use Rattle.plan.specs.Check.{Accepted}
use Rattle.plan.proofs.AcceptedLaws.{child-between}
use Rattle.event.specs.Event.{Code, start, offer, commit, abort, answered-yes, answered-no, pick, down, Event, code_number}
use Rattle.guard.specs.Guard.{Guard, one, each, any_of, is_first, before_in, start_by, finish_by, abort_by, finishing, aborting, guard_by, guard}
use Rattle.guard.specs.Bytes.{encode}
use Rattle.guard.specs.Put.{each_clause, any_clause}
use Rattle.guard.proofs.EncodeLaws.{encode-each, encode-each-any, each-short, any-length}

-- a node that is not in the plan has no children
pub few-children : (p : List ℕ) → Accepted p → (u : ℕ) → length (children p u) ≤ 32
few-children p ok u = cases (decided (ltb u (size p))) (λ e. ok.most u (ltb-true u (size p) e))
    (λ e. let h = ltb-false u (size p) e in
    omega (arith, ap length (none_in (children p u) (λ c i. let k = child-between p ok u i in omega arith))))

record Short (g : Guard) : Type 0 where
  fits : length (encode g) ≤ 290

each_fits : (ks : List Code) (cs : List ℕ) → length (map code_number ks) ≤ 3 → length cs ≤ 32 → Short (each ks cs)
each_fits ks cs h few = record { fits = omega (arith, ap length (encode-each ks cs), each-short (map code_number ks) cs h) }

each-any-fits : (ks : List Code) (xs : List ℕ) (k : Code) (ys : List ℕ) → length (map code_number ks) ≤ 3 → length xs ≤ 32 → length ys ≤ 32
    → Short (each ks xs ++ any_of k ys)
each-any-fits ks xs k ys h few few' =
    record {
      fits =
          omega (
            arith,
            ap length (encode-each-any ks xs k ys),
            each-short (map code_number ks) xs h,
            any-length (code_number k) ys,
            length-append (each_clause (map code_number ks) xs) (any_clause (code_number k) ys),
          );
    }

one-fits : (k : Code) (v : ℕ) → Short (one k v)
one-fits k v = each_fits (k ∷ []) (v ∷ []) (omega arith) (omega arith)

cond-fits : (b : Bool) (g h : Guard) → Short g → Short h → Short (cond b g h)
cond-fits true g h x y = x
cond-fits false g h x y = y

start_fits : (k : Kind) (u : ℕ) (cs : List ℕ) (v : ℕ) → Short (start_by k u cs v)
unfolding start_by
start_fits task u cs v = each_fits [] [] (omega arith) (omega arith)
start_fits serial u cs v = cond-fits (is_first cs v) _ _ (one-fits start u) (one-fits commit (before_in v cs v))
start_fits and u cs v = one-fits _ _
start_fits or u cs v = one-fits _ _
start_fits xor u cs v = one-fits _ _
start_fits contingency u cs v = cond-fits (is_first cs v) _ _ (one-fits start u) (one-fits abort (before_in v cs v))
start_fits conditional u cs v = cond-fits (is_first cs v) _ _ (one-fits answered-yes u) (one-fits answered-no u)
start_fits waiting u cs v = one-fits _ _

module _ (v : ℕ) (cs : List ℕ) (few : length cs ≤ 32) where
  any-fits : (k : Code) → Short (any_of k cs)
  any-fits k = each-any-fits [] [] k cs (omega arith) (omega arith) few

  finish-fits : (k : Kind) → Short (finish_by k v cs)
  unfolding finish_by
  finish-fits task = one-fits _ _
  finish-fits serial = one-fits _ _
  finish-fits and = each_fits (commit ∷ []) cs (omega arith) few
  finish-fits or = each-any-fits (commit ∷ abort ∷ []) cs _ cs (omega arith) few few
  finish-fits xor = each-any-fits (commit ∷ abort ∷ down ∷ []) cs _ cs (omega arith) few few
  finish-fits contingency = any-fits _
  finish-fits conditional = any-fits _
  finish-fits waiting = each_fits (commit ∷ []) cs (omega arith) few

  abort-fits : (k : Kind) → Short (abort_by k v cs)
  unfolding abort_by
  abort-fits task = one-fits _ _
  abort-fits serial = any-fits _
  abort-fits and = any-fits _
  abort-fits or = each_fits (abort ∷ []) cs (omega arith) few
  abort-fits xor = each_fits (abort ∷ []) cs (omega arith) few
  abort-fits contingency = one-fits _ _
  abort-fits conditional = any-fits _
  abort-fits waiting = each-any-fits (commit ∷ abort ∷ []) cs _ cs (omega arith) few few

module _ (p : List ℕ) (ok : Accepted p) where
  few-others : (v : ℕ) → length (others p v) ≤ 32
  unfolding others
  few-others v = omega (arith, keep-short (λ c. not (eqb c v)) (children p (parent p v)), few-children p ok (parent p v))

  guard-fits : (k : Code) (v : ℕ) → Short (guard_by p k v)
  unfolding guard_by finishing aborting
  guard-fits start v = start_fits _ _ _ _
  guard-fits offer v = finish-fits _ _ (few-children p ok v) _
  guard-fits commit v = cond-fits (in_xor p v) _ _ (one-fits pick v) (finish-fits v _ (few-children p ok v) (kind p v))
  guard-fits abort v = abort-fits _ _ (few-children p ok v) _
  guard-fits answered-yes v = one-fits _ _
  guard-fits answered-no v = one-fits _ _
  guard-fits pick v = one-fits _ _
  guard-fits down v = each-any-fits (offer ∷ []) (v ∷ []) pick (others p v) (omega arith) (omega arith) (few-others v)

  pub guard-short : (e : Event) → length (encode (guard p e)) ≤ 290
  unfolding guard
  guard-short e = (guard-fits e.code e.node).fits
