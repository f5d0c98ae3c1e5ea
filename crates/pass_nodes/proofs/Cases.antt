-- Worked ends and marks (rules F): how every node ends by itself, which mark a block gives a child where the block is reached, and which mark the
-- pass leaves. Worked out by hand from the rules. Assumes nothing.
use mathlib.Core.Path.{◌≡◌, refl}
use mathlib.Core.Bool.{true, false}
use mathlib.Core.List.{List, [], ◌∷◌, map}
use Prim.Native.Nat.{ℕ}
use Rattle.lists.specs.Seq.{keep, up_from}
use Rattle.plan.specs.Plan.{kind_number, is_kind, kind_of, size, kind_byte, kind, parent, children_below, children}
use Rattle.plan.specs.declared.kinds.Kind.TheVariants.{Task as task, Serial as serial, And as and, Or as or, Xor as xor, Contingency as contingency, Conditional as conditional, Waiting as waiting}
use Rattle.pass.specs.Pass.{Outcome, works, breaks, fault, goes_by, goes, one_or_two, bad_answer, bad_pick, closes, good_mark, child_mark, skip, note, ending, end_of, nothing, unwalked, child_settled, meet_by, meet, walk, close, settle_if, settle_by, settle, number_of, root_mark, pass_of, pass}
use Rattle.pass_nodes.specs.Nodes.{counted, tallied, end_by, end_within, end_at, next_mark, mark_among, gives, pass_mark, has_answer}

-- a plan and answers, and what every node comes to: how it ends by itself, and its mark
pub record Case : Type 0 where
  pub plan : List ℕ
  pub answers : List ℕ
  pub ends : List Outcome
  pub marks : List ℕ

case : List ℕ → List ℕ → List Outcome → List ℕ → Case
case p a e m = record { plan = p; answers = a; ends = e; marks = m }

-- serial 0: task 1, xor 2 of tasks 3 and 4, task 5
abbrev P : List ℕ
P = 2 ∷ 255 ∷ 1 ∷ 0 ∷ 5 ∷ 0 ∷ 1 ∷ 2 ∷ 1 ∷ 2 ∷ 1 ∷ 0 ∷ []

-- a root of this kind over two tasks
abbrev pair : ℕ → List ℕ
pair k = k ∷ 255 ∷ 1 ∷ 0 ∷ 1 ∷ 0 ∷ []

-- an and of a task and of a conditional, whose branches are a contingency of two tasks and a task
abbrev branches : List ℕ
branches = 3 ∷ 255 ∷ 1 ∷ 0 ∷ 7 ∷ 0 ∷ 6 ∷ 2 ∷ 1 ∷ 3 ∷ 1 ∷ 3 ∷ 1 ∷ 2 ∷ []

abbrev P9 : List ℕ
P9 = 0 ∷ 1 ∷ 1 ∷ 1 ∷ 1 ∷ 1 ∷ []

abbrev P10 : List ℕ
P10 = 0 ∷ 2 ∷ 1 ∷ 1 ∷ 1 ∷ 1 ∷ []

pub cases : List Case
cases =
    -- P9; P10: what is not reached ends by itself, and has no mark
    case P P9 (works ∷ works ∷ works ∷ works ∷ works ∷ works ∷ []) (3 ∷ 3 ∷ 3 ∷ 3 ∷ 5 ∷ 3 ∷ [])
    ∷ case P P10 (breaks ∷ breaks ∷ works ∷ works ∷ works ∷ works ∷ []) (4 ∷ 4 ∷ 0 ∷ 0 ∷ 0 ∷ 0 ∷ [])
    -- the xor fails as the serial's second child, or picks its second child
    ∷ case P (9 ∷ 1 ∷ 0 ∷ 2 ∷ 2 ∷ 9 ∷ []) (breaks ∷ works ∷ breaks ∷ breaks ∷ breaks ∷ fault 13 ∷ []) (4 ∷ 3 ∷ 4 ∷ 4 ∷ 4 ∷ 0 ∷ [])
    ∷ case P (0 ∷ 1 ∷ 2 ∷ 1 ∷ 1 ∷ 2 ∷ []) (breaks ∷ works ∷ works ∷ works ∷ works ∷ breaks ∷ []) (4 ∷ 3 ∷ 3 ∷ 5 ∷ 3 ∷ 4 ∷ [])
    -- faults that are not reached: of tasks, and of the xor's pick
    ∷ case P (7 ∷ 2 ∷ 9 ∷ 9 ∷ 9 ∷ 9 ∷ []) (breaks ∷ breaks ∷ fault 13 ∷ fault 13 ∷ fault 13 ∷ fault 13 ∷ []) (4 ∷ 4 ∷ 0 ∷ 0 ∷ 0 ∷ 0 ∷ [])
    ∷ case P (7 ∷ 2 ∷ 0 ∷ 1 ∷ 1 ∷ 1 ∷ []) (breaks ∷ breaks ∷ fault 14 ∷ works ∷ works ∷ works ∷ []) (4 ∷ 4 ∷ 0 ∷ 0 ∷ 0 ∷ 0 ∷ [])
    -- every kind
    ∷ case (1 ∷ 255 ∷ []) (1 ∷ []) (works ∷ []) (3 ∷ [])
    ∷ case (1 ∷ 255 ∷ []) (2 ∷ []) (breaks ∷ []) (4 ∷ [])
    ∷ case (pair 2) (0 ∷ 1 ∷ 2 ∷ []) (breaks ∷ works ∷ breaks ∷ []) (4 ∷ 3 ∷ 4 ∷ [])
    ∷ case (pair 2) (0 ∷ 2 ∷ 0 ∷ []) (breaks ∷ breaks ∷ fault 13 ∷ []) (4 ∷ 4 ∷ 0 ∷ [])
    ∷ case (pair 3) (0 ∷ 2 ∷ 1 ∷ []) (breaks ∷ breaks ∷ works ∷ []) (4 ∷ 4 ∷ 3 ∷ [])
    ∷ case (pair 3) (0 ∷ 1 ∷ 1 ∷ []) (works ∷ works ∷ works ∷ []) (3 ∷ 3 ∷ 3 ∷ [])
    ∷ case (pair 4) (0 ∷ 2 ∷ 1 ∷ []) (works ∷ breaks ∷ works ∷ []) (3 ∷ 4 ∷ 3 ∷ [])
    ∷ case (pair 4) (0 ∷ 2 ∷ 2 ∷ []) (breaks ∷ breaks ∷ breaks ∷ []) (4 ∷ 4 ∷ 4 ∷ [])
    ∷ case (pair 5) (1 ∷ 1 ∷ 1 ∷ []) (works ∷ works ∷ works ∷ []) (3 ∷ 3 ∷ 5 ∷ [])
    ∷ case (pair 5) (2 ∷ 2 ∷ 1 ∷ []) (works ∷ breaks ∷ works ∷ []) (3 ∷ 4 ∷ 3 ∷ [])
    ∷ case (pair 5) (0 ∷ 2 ∷ 2 ∷ []) (breaks ∷ breaks ∷ breaks ∷ []) (4 ∷ 4 ∷ 4 ∷ [])
    ∷ case (pair 6) (0 ∷ 1 ∷ 9 ∷ []) (works ∷ works ∷ fault 13 ∷ []) (3 ∷ 3 ∷ 0 ∷ [])
    ∷ case (pair 6) (0 ∷ 2 ∷ 1 ∷ []) (works ∷ breaks ∷ works ∷ []) (3 ∷ 4 ∷ 3 ∷ [])
    ∷ case (pair 6) (0 ∷ 2 ∷ 2 ∷ []) (breaks ∷ breaks ∷ breaks ∷ []) (4 ∷ 4 ∷ 4 ∷ [])
    ∷ case (pair 7) (1 ∷ 2 ∷ 9 ∷ []) (breaks ∷ breaks ∷ fault 13 ∷ []) (4 ∷ 4 ∷ 0 ∷ [])
    ∷ case (pair 7) (2 ∷ 2 ∷ 1 ∷ []) (works ∷ breaks ∷ works ∷ []) (3 ∷ 0 ∷ 3 ∷ [])
    ∷ case (pair 8) (0 ∷ 2 ∷ 1 ∷ []) (breaks ∷ breaks ∷ works ∷ []) (4 ∷ 4 ∷ 3 ∷ [])
    ∷ case (pair 8) (0 ∷ 1 ∷ 1 ∷ []) (works ∷ works ∷ works ∷ []) (3 ∷ 3 ∷ 3 ∷ [])
    -- the branch that is not answered for: none of its subtree is marked, though its block would give marks
    ∷ case branches (0 ∷ 2 ∷ 2 ∷ 0 ∷ 2 ∷ 1 ∷ 1 ∷ []) (breaks ∷ breaks ∷ works ∷ works ∷ breaks ∷ works ∷ works ∷ []) (4 ∷ 4 ∷ 3 ∷ 0 ∷ 0 ∷ 0 ∷ 3 ∷ [])
    ∷ case branches (0 ∷ 1 ∷ 1 ∷ 0 ∷ 2 ∷ 1 ∷ 9 ∷ []) (works ∷ works ∷ works ∷ works ∷ breaks ∷ works ∷ fault 13 ∷ []) (3 ∷ 3 ∷ 3 ∷ 3 ∷ 4 ∷ 3 ∷ 0 ∷ [])
    ∷ []

-- the pass accepts each of these lists
pub accepted : map (λ k. (pass k.plan k.answers).number) cases ≡ map (λ k. 0) cases
unfolding pass pass_of number_of root_mark settle settle_by settle_if close walk meet meet_by child_settled unwalked nothing end_of ending note skip child_mark good_mark closes bad_pick bad_answer one_or_two goes goes_by kind_number is_kind kind_of size kind_byte kind parent children_below children keep up_from cases case
accepted = refl

pub all-ends : map (λ k. map (end_at k.plan k.answers) (up_from 0 (size k.plan))) cases ≡ map (λ k. k.ends) cases
unfolding end_at end_within end_by tallied counted nothing end_of ending note skip closes bad_pick bad_answer one_or_two goes goes_by kind_of size kind_byte kind parent children_below children keep up_from cases case
all-ends = refl

pub all-marks : map (λ k. map (pass_mark k.plan k.answers) (up_from 0 (size k.plan))) cases ≡ map (λ k. k.marks) cases
unfolding pass_mark pass pass_of root_mark settle settle_by settle_if close walk meet meet_by child_settled unwalked nothing end_of ending note skip child_mark good_mark closes bad_pick bad_answer one_or_two goes goes_by kind_number is_kind kind_of size kind_byte kind parent children_below children keep up_from cases case
all-marks = refl

-- a list that is refused: the first fault met is the root's end
abbrev pub Refused : Type 0
Refused =
    -- a task's answer, before the xor's pick; a pick that no child has, or that a child has which fails; none while a child offers
    (map (end_at P (0 ∷ 1 ∷ 9 ∷ 1 ∷ 0 ∷ 9 ∷ [])) (up_from 0 6) ≡ fault 13 ∷ works ∷ fault 13 ∷ works ∷ fault 13 ∷ fault 13 ∷ [])
    × (map (end_at P (0 ∷ 1 ∷ 3 ∷ 1 ∷ 1 ∷ 9 ∷ [])) (up_from 0 6) ≡ fault 14 ∷ works ∷ fault 14 ∷ works ∷ works ∷ fault 13 ∷ [])
    × (map (end_at P (0 ∷ 1 ∷ 1 ∷ 2 ∷ 1 ∷ 1 ∷ [])) (up_from 0 6) ≡ fault 14 ∷ works ∷ fault 14 ∷ breaks ∷ works ∷ works ∷ [])
    × (map (end_at P (0 ∷ 1 ∷ 0 ∷ 1 ∷ 2 ∷ 1 ∷ [])) (up_from 0 6) ≡ fault 14 ∷ works ∷ fault 14 ∷ works ∷ breaks ∷ works ∷ [])
    -- a conditional's answer, before its branches
    × (map (end_at (pair 7) (3 ∷ 1 ∷ 1 ∷ [])) (up_from 0 3) ≡ fault 13 ∷ works ∷ works ∷ [])

pub refused : Refused
unfolding end_at end_within end_by tallied counted nothing end_of ending note skip closes bad_pick bad_answer one_or_two goes goes_by kind_of size kind_byte kind parent children_below children keep up_from
refused = (refl, refl, refl, refl, refl)

-- what a block gives its children, were it reached; it gives nothing to any other node
abbrev pub Given : Type 0
Given =
    (map (gives P P9 0) (up_from 0 7) ≡ 0 ∷ 3 ∷ 3 ∷ 0 ∷ 0 ∷ 3 ∷ 0 ∷ [])
    × (map (gives P P9 2) (up_from 0 7) ≡ 0 ∷ 0 ∷ 0 ∷ 3 ∷ 5 ∷ 0 ∷ 0 ∷ [])
    × (map (gives P P9 1) (up_from 0 7) ≡ 0 ∷ 0 ∷ 0 ∷ 0 ∷ 0 ∷ 0 ∷ 0 ∷ [])
    × (map (gives P P10 0) (up_from 0 7) ≡ 0 ∷ 4 ∷ 0 ∷ 0 ∷ 0 ∷ 0 ∷ 0 ∷ [])
    × (map (gives P P10 2) (up_from 0 7) ≡ 0 ∷ 0 ∷ 0 ∷ 3 ∷ 5 ∷ 0 ∷ 0 ∷ [])
    × (map (gives P (0 ∷ 1 ∷ 2 ∷ 1 ∷ 1 ∷ 1 ∷ []) 2) (up_from 0 7) ≡ 0 ∷ 0 ∷ 0 ∷ 5 ∷ 3 ∷ 0 ∷ 0 ∷ [])

pub given : Given
unfolding gives mark_among next_mark end_at end_within end_by tallied counted nothing end_of ending note skip child_mark good_mark closes bad_pick bad_answer one_or_two goes goes_by kind_number is_kind kind_of size kind_byte kind parent children_below children keep up_from
given = (refl, refl, refl, refl, refl, refl)

-- F1: whose answers are looked at
pub answering : map has_answer (task ∷ serial ∷ and ∷ or ∷ xor ∷ contingency ∷ conditional ∷ waiting ∷ []) ≡ true ∷ false ∷ false ∷ false ∷ true ∷ false ∷ true ∷ false ∷ []
unfolding has_answer
answering = refl
