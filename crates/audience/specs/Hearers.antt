-- The nodes whose sites are told of an event, in closed form (rule V6). Definitions only.
use Rattle.std.specs.Prelude.{cond, List, [], ◌∷◌, ℕ, ltb, take, drop}
use Rattle.lists.specs.Seq.{keep, head_or}
use Rattle.plan.specs.Plan.{is_kind, kind, parent, children, above}
use Rattle.plan.specs.declared.kinds.Kind.{Kind}
use Rattle.plan.specs.declared.kinds.Kind.TheVariants.{Task as task, Serial as serial, And as and, Or as or, Xor as xor, Contingency as contingency, Conditional as conditional, Waiting as waiting}
use Rattle.event.specs.Event.{Code, start, offer, commit, abort, answered-yes, answered-no, pick, down, Event}

-- V6: those of cs above v
unfoldable pub later : List ℕ → ℕ → List ℕ
later cs v = keep (λ c. ltb v c) cs

-- V6: start of a node of this kind, with the children cs: the first of them where they go one after another, all where they go at once, and none
-- where an answer comes first
unfoldable pub start_hearers : Kind → List ℕ → List ℕ
start_hearers task cs = []
start_hearers serial cs = take 1 cs
start_hearers and cs = cs
start_hearers or cs = cs
start_hearers xor cs = cs
start_hearers contingency cs = take 1 cs
start_hearers conditional cs = []
start_hearers waiting cs = cs

-- V6: commit or abort of v, under a parent u of the kind `above`, with the children cs: u itself. Where this end hands the turn on (a commit in a serial,
-- an abort in a contingency: the kind `turn`) it is the next sibling, and u after the last. The root, under a task, has nobody
unfoldable pub end_hearers : Kind → Kind → ℕ → List ℕ → ℕ → List ℕ
end_hearers turn above u cs v = cond (is_kind task above) [] (cond (is_kind turn above) (head_or u (later cs v) ∷ []) (u ∷ []))

-- V6: by the code
unfoldable pub hearers_by : List ℕ → Code → ℕ → List ℕ
hearers_by p start v = start_hearers (kind p v) (children p v)
hearers_by p offer v = parent p v ∷ []
hearers_by p commit v = end_hearers serial (above p v) (parent p v) (children p (parent p v)) v
hearers_by p abort v = end_hearers contingency (above p v) (parent p v) (children p (parent p v)) v
hearers_by p answered-yes v = take 1 (children p v)
hearers_by p answered-no v = take 1 (drop 1 (children p v))
hearers_by p pick v = children p (parent p v)
hearers_by p down v = parent p v ∷ []

-- V6: of an event
unfoldable pub hearers : List ℕ → Event → List ℕ
hearers p e = hearers_by p e.code e.node
