-- The guard of each event, when it holds, and what bars an event (rules C and D). Definitions only.
use Rattle.std.specs.Prelude.{Bool, cond, List, [], ◌∷◌, ◌++◌, map, ℕ, eqb}
use Rattle.lists.specs.Seq.{all, any, last_or, head_or}
use Rattle.plan.specs.Plan.{kind, parent, children, others, above, in_xor}
use Rattle.plan.specs.declared.kinds.Kind.{Kind}
use Rattle.plan.specs.declared.kinds.Kind.TheVariants.{Task as task, Serial as serial, And as and, Or as or, Xor as xor, Contingency as contingency, Conditional as conditional, Waiting as waiting}
use Rattle.event.specs.Event.{Code, start, offer, commit, abort, answered-yes, answered-no, pick, down, Event, at}

-- C1: a clause is a list of events, a guard a list of clauses
abbrev pub Guard : Type 0
Guard = List (List Event)

-- C2 to C6: the three forms of clauses: one event; one clause of these codes for each of cs; one clause with this code of all of cs
abbrev pub one : Code → ℕ → Guard
one c v = (at c v ∷ []) ∷ []

abbrev pub each : List Code → List ℕ → Guard
each ks cs = map (λ c. map (λ k. at k c) ks) cs

abbrev pub any_of : Code → List ℕ → Guard
any_of k cs = map (at k) cs ∷ []

-- C2: the one before v in a rising list; d where v is the first
unfoldable pub before_in : ℕ → List ℕ → ℕ → ℕ
before_in d [] v = d
before_in d (c ∷ cs) v = cond (eqb c v) d (before_in c cs v)

-- C2: v has no sibling before it
unfoldable pub is_first : List ℕ → ℕ → Bool
is_first cs v = eqb (head_or v cs) v

-- C2: start of v. u is the parent, of the kind given, and cs its children; a task is nobody's parent and stands for the root's
unfoldable pub start_by : Kind → ℕ → List ℕ → ℕ → Guard
start_by task u cs v = []
start_by serial u cs v = cond (is_first cs v) (one start u) (one commit (before_in v cs v))
start_by and u cs v = one start u
start_by or u cs v = one start u
start_by xor u cs v = one start u
start_by contingency u cs v = cond (is_first cs v) (one start u) (one abort (before_in v cs v))
start_by conditional u cs v = cond (is_first cs v) (one answered-yes u) (one answered-no u)
start_by waiting u cs v = one start u

-- C3: finishing, v of the kind given with the children cs
unfoldable pub finish_by : Kind → ℕ → List ℕ → Guard
finish_by task v cs = one start v
finish_by serial v cs = one commit (last_or v cs)
finish_by and v cs = each (commit ∷ []) cs
finish_by or v cs = each (commit ∷ abort ∷ []) cs ++ any_of commit cs
finish_by xor v cs = each (commit ∷ abort ∷ down ∷ []) cs ++ any_of commit cs
finish_by contingency v cs = any_of commit cs
finish_by conditional v cs = any_of commit cs
finish_by waiting v cs = each (commit ∷ []) cs

-- C4: abort. An and does not wait for its other children; a waiting one does
unfoldable pub abort_by : Kind → ℕ → List ℕ → Guard
abort_by task v cs = one start v
abort_by serial v cs = any_of abort cs
abort_by and v cs = any_of abort cs
abort_by or v cs = each (abort ∷ []) cs
abort_by xor v cs = each (abort ∷ []) cs
abort_by contingency v cs = one abort (last_or v cs)
abort_by conditional v cs = any_of abort cs
abort_by waiting v cs = each (commit ∷ abort ∷ []) cs ++ any_of abort cs

-- C3 and C4, for a node of a plan
unfoldable pub finishing : List ℕ → ℕ → Guard
finishing p v = finish_by (kind p v) v (children p v)

unfoldable pub aborting : List ℕ → ℕ → Guard
aborting p v = abort_by (kind p v) v (children p v)

-- C2 to C7, by the code: an xor's child offers where any other node commits, and commits once it is picked
unfoldable pub guard_by : List ℕ → Code → ℕ → Guard
guard_by p start v = start_by (above p v) (parent p v) (children p (parent p v)) v
guard_by p offer v = finishing p v
guard_by p commit v = cond (in_xor p v) (one pick v) (finishing p v)
guard_by p abort v = aborting p v
guard_by p answered-yes v = one start v
guard_by p answered-no v = one start v
guard_by p pick v = one offer v
guard_by p down v = one offer v ++ any_of pick (others p v)

-- C2 to C7: the guard of an event
unfoldable pub guard : List ℕ → Event → Guard
guard p e = guard_by p e.code e.node

-- C1: every clause has an event that is heard
unfoldable pub holds : (Event → Bool) → Guard → Bool
holds heard g = all (any heard) g

-- D1: the events that bar an event. Each happens at the event's own site, and every event is among its own
unfoldable pub bars_by : List ℕ → Code → ℕ → List Event
bars_by p start v = at start v ∷ []
bars_by p offer v = at offer v ∷ at abort v ∷ []
bars_by p commit v = at commit v ∷ at abort v ∷ []
bars_by p abort v = at abort v ∷ at commit v ∷ at offer v ∷ []
bars_by p answered-yes v = at answered-yes v ∷ at answered-no v ∷ []
bars_by p answered-no v = at answered-yes v ∷ at answered-no v ∷ []
bars_by p pick v = map (at pick) (children p (parent p v))
bars_by p down v = at down v ∷ []

-- D1 and D2: what bars an event, and that one of it is heard
unfoldable pub bars : List ℕ → Event → List Event
bars p e = bars_by p e.code e.node

unfoldable pub barred : List ℕ → (Event → Bool) → Event → Bool
barred p heard e = any heard (bars p e)
