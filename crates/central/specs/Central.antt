-- The central rule (rules E), which knows every mark, every answer and every pick, and no rows. Definitions only.
use Rattle.std.specs.Prelude.{Bool, true, false, cond, ◌&&◌, ◌||◌, not, List, [], ◌∷◌, ℕ, eqb, ltb}
use Rattle.lists.specs.Seq.{all, any, earlier}
use Rattle.plan.specs.Plan.{kind, parent, children, others, above, in_xor}
use Rattle.plan.specs.declared.kinds.Kind.{Kind}
use Rattle.plan.specs.declared.kinds.Kind.TheVariants.{Task as task, Serial as serial, And as and, Or as or, Xor as xor, Contingency as contingency, Conditional as conditional, Waiting as waiting}
use Rattle.event.specs.Event.{Code, start, offer, commit, abort, answered-yes, answered-no, pick, down, Event, applies}
use Rattle.central.specs.Mark.{Mark, idle, running, offered, committed, failed, turned_down, is_mark}

-- E3: what a conditional has answered
pub data Answer : Type 0 where
  none said-yes said-no : Answer

-- E1: a state: of each node its mark, its answer, and whether it is picked
pub record Central : Type 0 where
  pub mark : ℕ → Mark
  pub answer : ℕ → Answer
  pub picked : ℕ → Bool

-- E8: f with x at v, and nothing else changed
abbrev pub update {ℓ} : {A : Type ℓ} → (ℕ → A) → ℕ → A → ℕ → A
update f v x w = cond (eqb v w) x (f w)

-- E1: at the beginning all marks are 0, and there are no answers and no picks
unfoldable pub fresh : Central
fresh = record { mark = λ v. idle; answer = λ v. none; picked = λ v. false }

-- E8: an event's new mark of its node; yes, no and pick leave the mark
unfoldable pub mark_after : Code → Mark → Mark
mark_after start m = running
mark_after offer m = offered
mark_after commit m = committed
mark_after abort m = failed
mark_after answered-yes m = m
mark_after answered-no m = m
mark_after pick m = m
mark_after down m = turned_down

-- E8: yes and no are noted
unfoldable pub answer_after : Code → Answer → Answer
answer_after start a = a
answer_after offer a = a
answer_after commit a = a
answer_after abort a = a
answer_after answered-yes a = said-yes
answer_after answered-no a = said-no
answer_after pick a = a
answer_after down a = a

-- E8: a pick is noted
unfoldable pub picked_after : Code → Bool → Bool
picked_after start k = k
picked_after offer k = k
picked_after commit k = k
picked_after abort k = k
picked_after answered-yes k = k
picked_after answered-no k = k
picked_after pick k = true
picked_after down k = k

-- E8: an event changes nothing but what its node has
unfoldable pub after : Central → Event → Central
after s e =
    record {
      mark = update s.mark e.node (mark_after e.code (s.mark e.node));
      answer = update s.answer e.node (answer_after e.code (s.answer e.node));
      picked = update s.picked e.node (picked_after e.code (s.picked e.node));
    }

-- E3: which answer it is
unfoldable pub is_yes : Answer → Bool
is_yes none = false
is_yes said-yes = true
is_yes said-no = false

unfoldable pub is_no : Answer → Bool
is_no none = false
is_no said-yes = false
is_no said-no = true

-- E1: v has mark m
abbrev pub marked : Central → Mark → ℕ → Bool
marked s m v = is_mark m (s.mark v)

-- E1: any mark but 0 says that v is started
abbrev pub started : Central → ℕ → Bool
started s v = not (marked s idle v)

-- E2: v's place is reached, by the kind of its parent u, which has the children cs
unfoldable pub reached_by : Kind → Central → ℕ → List ℕ → ℕ → Bool
reached_by task s u cs v = false
reached_by serial s u cs v = all (marked s committed) (earlier cs v)
reached_by and s u cs v = true
reached_by or s u cs v = true
reached_by xor s u cs v = true
reached_by contingency s u cs v = all (marked s failed) (earlier cs v)
reached_by conditional s u cs v = cond (any (λ c. ltb c v) cs) (is_no (s.answer u)) (is_yes (s.answer u))
reached_by waiting s u cs v = true

-- E2: the root may start, another node if its parent is started and its place reached
unfoldable pub may_start : List ℕ → Central → ℕ → Bool
may_start p s v = cond (eqb v 0) true (started s (parent p v) && reached_by (above p v) s (parent p v) (children p (parent p v)) v)

-- E4 and E5: the child of the answered branch is as f says
unfoldable pub of_branch : (ℕ → Bool) → Answer → List ℕ → Bool
of_branch f none cs = false
of_branch f said-yes [] = false
of_branch f said-yes (a ∷ cs) = f a
of_branch f said-no [] = false
of_branch f said-no (a ∷ []) = false
of_branch f said-no (a ∷ b ∷ cs) = f b

-- E4: v's children cs, by its kind, let v finish
unfoldable pub finishes_by : Kind → Central → ℕ → List ℕ → Bool
finishes_by task s v cs = true
finishes_by serial s v cs = all (marked s committed) cs
finishes_by and s v cs = all (marked s committed) cs
finishes_by or s v cs = all (λ c. marked s committed c || marked s failed c) cs && any (marked s committed) cs
finishes_by xor s v cs =
    all (λ c. marked s committed c || marked s failed c || marked s turned_down c) cs && any (marked s committed) cs
finishes_by contingency s v cs = any (marked s committed) cs
finishes_by conditional s v cs = of_branch (marked s committed) (s.answer v) cs
finishes_by waiting s v cs = all (marked s committed) cs

-- E5: v's children cs, by its kind, let v fail
unfoldable pub fails_by : Kind → Central → ℕ → List ℕ → Bool
fails_by task s v cs = true
fails_by serial s v cs = any (marked s failed) cs
fails_by and s v cs = any (marked s failed) cs
fails_by or s v cs = all (marked s failed) cs
fails_by xor s v cs = all (marked s failed) cs
fails_by contingency s v cs = all (marked s failed) cs
fails_by conditional s v cs = of_branch (marked s failed) (s.answer v) cs
fails_by waiting s v cs = all (λ c. marked s committed c || marked s failed c) cs && any (marked s failed) cs

-- E2 to E7, by code. To finish is to commit, and for an xor's child to offer (E6); it commits once it is picked (E7). No event can happen
-- to a node twice (E8): its mark, its answer or a pick then stands against it.
unfoldable pub allowed_by : List ℕ → Central → Code → ℕ → Bool
allowed_by p s start v = marked s idle v && may_start p s v
allowed_by p s offer v = in_xor p v && marked s running v && finishes_by (kind p v) s v (children p v)
allowed_by p s commit v =
    cond (in_xor p v) (marked s offered v && s.picked v) (marked s running v && finishes_by (kind p v) s v (children p v))
allowed_by p s abort v = marked s running v && fails_by (kind p v) s v (children p v)
allowed_by p s answered-yes v = started s v && not (is_yes (s.answer v)) && not (is_no (s.answer v))
allowed_by p s answered-no v = started s v && not (is_yes (s.answer v)) && not (is_no (s.answer v))
allowed_by p s pick v = marked s offered v && not (any s.picked (children p (parent p v)))
allowed_by p s down v = marked s offered v && any s.picked (others p v)

-- E2 to E7: an event that applies (B2) and is allowed
unfoldable pub allowed : List ℕ → Central → Event → Bool
allowed p s e = applies p e && allowed_by p s e.code e.node

-- E9: es, each allowed after those before it, from s
unfoldable pub run_from : List ℕ → Central → List Event → Bool
run_from p s [] = true
run_from p s (e ∷ es) = allowed p s e && run_from p (after s e) es

-- E9: from the beginning
unfoldable pub is_run : List ℕ → List Event → Bool
is_run p es = run_from p fresh es

-- E8, E9: the state that es lead to from s
unfoldable pub reaches : Central → List Event → Central
reaches s [] = s
reaches s (e ∷ es) = reaches (after s e) es
