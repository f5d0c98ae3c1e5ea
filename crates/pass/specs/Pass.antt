-- The single pass (rules F). A node is settled by settling the children that it reaches, in rising number; settling it leaves the marks of
-- the nodes below it, and its own mark is left to its parent, the root's to `pass`. First the tables by kind: which children a block
-- reaches, which answers are faults, when a node works, which mark a child gets. Then the walk over the children, the nodes, the plan, and
-- `pass_into`, what a call answers and leaves. Definitions only.
use Rattle.std.specs.Prelude.{Bool, true, false, cond, ◌&&◌, ◌||◌, not, List, [], ◌∷◌, ℕ, zero, suc, eqb, length, get_or, set, replicate}
use Rattle.plan.specs.Plan.{kind, size, children, is_kind}
use Rattle.plan.specs.declared.kinds.Kind.{Kind}
use Rattle.plan.specs.declared.kinds.Kind.TheVariants.{Task as task, Serial as serial, And as and, Or as or, Xor as xor, Contingency as contingency, Conditional as conditional, Waiting as waiting}
use Rattle.plan.specs.Check.{fit_number}

-- how a node ends. F3: it works if it commits, or offers as a child of an xor; it breaks if it fails. F5: a fault's number is 13 or 14
pub data Outcome : Type 0 where
  works breaks : Outcome
  fault : ℕ → Outcome

-- F2, F3: what a block has seen of its children: how many there were, reached or not; whether one worked, one broke, one that works stands in the
-- answer's place; and the first fault's number, or 0
pub record Tally : Type 0 where
  pub places : ℕ
  pub worked : Bool
  pub broke : Bool
  pub chosen : Bool
  pub wrong : ℕ

-- F2, table: a block of this kind, with answer a, reaches its next child
unfoldable pub goes_by : Kind → ℕ → Tally → Bool
goes_by task a t = false
goes_by serial a t = not t.broke
goes_by and a t = true
goes_by or a t = true
goes_by xor a t = true
goes_by contingency a t = not t.worked
goes_by conditional a t = cond (eqb t.places 0) (eqb a 1) (eqb a 2)
goes_by waiting a t = true

-- F5: the first fault met ends the pass
unfoldable pub goes : Kind → ℕ → Tally → Bool
goes k a t = eqb t.wrong 0 && goes_by k a t

-- F1: works or fails, yes or no
unfoldable pub one_or_two : ℕ → Bool
one_or_two a = eqb a 1 || eqb a 2

-- F5, table: the number of a node's own fault that is found before its children, or 0
unfoldable pub bad_answer : Kind → ℕ → ℕ
bad_answer task a = cond (one_or_two a) 0 13
bad_answer serial a = 0
bad_answer and a = 0
bad_answer or a = 0
bad_answer xor a = 0
bad_answer contingency a = 0
bad_answer conditional a = cond (one_or_two a) 0 13
bad_answer waiting a = 0

-- F5, table: the same after its children. F1: an xor's answer is the place of a child that offers, and 0 if none does
unfoldable pub bad_pick : Kind → ℕ → Tally → ℕ
bad_pick task a t = 0
bad_pick serial a t = 0
bad_pick and a t = 0
bad_pick or a t = 0
bad_pick xor a t = cond (cond t.worked t.chosen (eqb a 0)) 0 14
bad_pick contingency a t = 0
bad_pick conditional a t = 0
bad_pick waiting a t = 0

-- F3, table: the node works, by its answer (a task) or its children (E4, E5); else it breaks
unfoldable pub closes : Kind → ℕ → Tally → Bool
closes task a t = eqb a 1
closes serial a t = not t.broke
closes and a t = not t.broke
closes or a t = t.worked
closes xor a t = t.worked
closes contingency a t = t.worked
closes conditional a t = t.worked
closes waiting a t = not t.broke

-- F4: the mark of a child that works, in place n: an xor turns down all but the picked one
unfoldable pub good_mark : Kind → ℕ → ℕ → ℕ
good_mark k a n = cond (is_kind xor k && not (eqb n a)) 5 3

-- F4, table: the mark of a block's next child, by how the child ended. With a fault no mark is handed out
unfoldable pub child_mark : Kind → ℕ → Tally → Outcome → ℕ
child_mark k a t works = good_mark k a (suc t.places)
child_mark k a t breaks = 4
child_mark k a t (fault n) = 0

-- F2: the tally after a child that was not reached
unfoldable pub skip : Tally → Tally
skip t = record { places = suc t.places; worked = t.worked; broke = t.broke; chosen = t.chosen; wrong = t.wrong }

-- F3: the tally after a child that ended so
unfoldable pub note : ℕ → Tally → Outcome → Tally
note a t works = record
    { places = suc t.places; worked = true; broke = t.broke; chosen = t.chosen || eqb (suc t.places) a; wrong = t.wrong }
note a t breaks = record { places = suc t.places; worked = t.worked; broke = true; chosen = t.chosen; wrong = t.wrong }
note a t (fault n) = record { places = suc t.places; worked = t.worked; broke = t.broke; chosen = t.chosen; wrong = n }

-- F5: the first of the faults, a child's w and then the node's own x; or the outcome
unfoldable pub ending : ℕ → ℕ → Bool → Outcome
ending w x b = cond (eqb w 0) (cond (eqb x 0) (cond b works breaks) (fault x)) (fault w)

-- F3, F5: how a node of this kind ends by its answer and its tally
unfoldable pub end_of : Kind → ℕ → Tally → Outcome
end_of k a t = ending t.wrong (bad_pick k a t) (closes k a t)

-- F3, F4: a settled node: how it ended, and the marks that it left
pub record Settled : Type 0 where
  pub outcome : Outcome
  pub marks : List ℕ

-- F2: a block on its way over its children, with the marks so far
pub record Walked : Type 0 where
  pub tally : Tally
  pub marks : List ℕ

-- F2: before its first child
unfoldable pub nothing : Tally
nothing = record { places = 0; worked = false; broke = false; chosen = false; wrong = 0 }

unfoldable pub unwalked : List ℕ → Walked
unwalked m = record { tally = nothing; marks = m }

-- F3, F4: child c was settled as r
unfoldable pub child_settled : Kind → ℕ → Walked → ℕ → Settled → Walked
child_settled k a w c r = record { tally = note a w.tally r.outcome; marks = set r.marks c (child_mark k a w.tally r.outcome) }

-- F2: the child is settled only where it is reached
unfoldable pub meet_by : Bool → (ℕ → List ℕ → Settled) → Kind → ℕ → Walked → ℕ → Walked
meet_by true f k a w c = child_settled k a w c (f c w.marks)
meet_by false f k a w c = record { tally = skip w.tally; marks = w.marks }

-- F2: the block comes to child c; f settles a child
unfoldable pub meet : (ℕ → List ℕ → Settled) → Kind → ℕ → Walked → ℕ → Walked
meet f k a w c = meet_by (goes k a w.tally) f k a w c

-- F2: in rising number
unfoldable pub walk : (ℕ → List ℕ → Settled) → Kind → ℕ → List ℕ → Walked → Walked
walk f k a [] w = w
walk f k a (c ∷ cs) w = walk f k a cs (meet f k a w c)

-- F3: no child is left
unfoldable pub close : Kind → ℕ → Walked → Settled
close k a w = record { outcome = end_of k a w.tally; marks = w.marks }

-- F5: a wrong answer of its own is found before its children
unfoldable pub settle_if : Bool → Kind → ℕ → (ℕ → List ℕ → Settled) → List ℕ → List ℕ → Settled
settle_if true k a f cs m = close k a (walk f k a cs (unwalked m))
settle_if false k a f cs m = record { outcome = fault (bad_answer k a); marks = m }

-- F2, F3: a node of kind k with answer a and children cs; f settles a child
unfoldable pub settle_by : Kind → ℕ → (ℕ → List ℕ → Settled) → List ℕ → List ℕ → Settled
settle_by k a f cs m = settle_if (eqb (bad_answer k a) 0) k a f cs m

-- F2: the node v, by the answers a, with marks m before. A node's children have higher numbers: fuel is enough from the node count less v on
unfoldable pub settle : List ℕ → List ℕ → ℕ → ℕ → List ℕ → Settled
settle p a zero v m = record { outcome = fault 0; marks = m }
settle p a (suc fuel) v m = settle_by (kind p v) (get_or a v 0) (λ c m'. settle p a fuel c m') (children p v) m

-- F4, H13: a number, 0 where the answers are accepted, and marks
pub record PassResult : Type 0 where
  pub number : ℕ
  pub marks : List ℕ

abbrev pub pass_result : ℕ → List ℕ → PassResult
pass_result n m = record { number = n; marks = m }

-- H13: the number of each outcome
unfoldable pub number_of : Outcome → ℕ
number_of works = 0
number_of breaks = 0
number_of (fault n) = n

-- F4: the root's mark
unfoldable pub root_mark : Outcome → ℕ
root_mark works = 3
root_mark breaks = 4
root_mark (fault n) = 0

-- F4, H13: what the settled root hands out
unfoldable pub pass_of : Settled → PassResult
pass_of r = record { number = number_of r.outcome; marks = set r.marks 0 (root_mark r.outcome) }

-- F2, F4: the pass over a plan: it reaches the root, and nodes that it does not reach keep mark 0
unfoldable pub pass : List ℕ → List ℕ → PassResult
pass p a = pass_of (settle p a (size p) 0 (replicate (size p) 0))

-- H0, H7: 1 to 6 of the plan, 7 of the lengths
unfoldable pub pass_number : List ℕ → List ℕ → List ℕ → ℕ
pass_number p a m = fit_number p (eqb (length a) (size p) && eqb (length m) (size p))

-- H0: a call of the pass, with the marks m lent: 1 to 7, then 13 or 14 of the answers (H13). A refused call leaves the marks; any other
-- leaves every node's
unfoldable pub pass_into : List ℕ → List ℕ → List ℕ → PassResult
pass_into p a m =
    cond (not (eqb (pass_number p a m) 0)) (pass_result (pass_number p a m) m)
    (cond (not (eqb (pass p a).number 0)) (pass_result (pass p a).number m)
    (pass p a))
