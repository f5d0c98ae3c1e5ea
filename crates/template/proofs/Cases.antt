-- Templates, their repeated trees and plans, and the call (rules S), worked out by hand from the rules. Assumes nothing.
use mathlib.Core.Path.{◌≡◌, refl}
use mathlib.Core.Bool.{Bool, true, false, cond}
use mathlib.Core.List.{List, [], ◌∷◌, ◌++◌, map}
use Prim.Native.Nat.{ℕ, zero, suc, ◌+◌, ◌-◌, ◌*◌}
use lib.Dec.{eqb}
use Rattle.lists.specs.Seq.{keep, up_from, all_below}
use Rattle.plan.specs.Plan.{kind_of, size, kind_byte, kind, parent, children_below, children, child_count, depth_within, depth}
use Rattle.plan.specs.Check.{length_ok, kind_ok, parent_ok, under_block, fits, count_ok, depth_ok, at_all, check_number, fit_number}
use Rattle.plan.specs.Made.{made, in_front}
use Rattle.trees.specs.Tree.{Forest, none, tree, trees_of, below_within, trees_below, node_count}
use Rattle.trees.specs.Numbering.{written, above_within, is_above, follows, in_preorder}
use Rattle.template.specs.Repeat.{can_repeat, can_mark, beside, times, repeated_within, repeated_below, repeated_tree, repeated, moved}
use Rattle.template.specs.Call.{times_ok, template_number, repeat_number, repeat_of}

-- serial 0: task 1, and 2 of serial 3 of tasks 4 and 5, task 6
abbrev day : List ℕ
day = 2 ∷ 255 ∷ 1 ∷ 0 ∷ 3 ∷ 0 ∷ 2 ∷ 2 ∷ 1 ∷ 3 ∷ 1 ∷ 3 ∷ 1 ∷ 0 ∷ []

-- serial 0: and 1 of serial 3 of tasks 4 and 5, task 2: not in the fixed numbering
abbrev mixed : List ℕ
mixed = 2 ∷ 255 ∷ 3 ∷ 0 ∷ 1 ∷ 0 ∷ 2 ∷ 1 ∷ 1 ∷ 3 ∷ 1 ∷ 3 ∷ []

-- or 0 of xor 1 of task 2: both can be marked
abbrev nested : List ℕ
nested = 4 ∷ 255 ∷ 5 ∷ 0 ∷ 1 ∷ 1 ∷ []

-- kind k with one task, and with two
abbrev one : ℕ → List ℕ
one k = k ∷ 255 ∷ 1 ∷ 0 ∷ []

abbrev two : ℕ → List ℕ
two k = k ∷ 255 ∷ 1 ∷ 0 ∷ 1 ∷ 0 ∷ []

abbrev leaf : Forest → Forest
leaf t = tree 1 none t

-- S1: whether a node can be marked
record Marked : Type 0 where
  plan : List ℕ
  node : ℕ
  can : Bool

marked : List ℕ → ℕ → Bool → Marked
marked p m b = record { plan = p; node = m; can = b }

marks : List Marked
marks =
    marked (one 2) 0 false
    ∷ marked (one 3) 0 true
    ∷ marked (one 4) 0 true
    ∷ marked (one 5) 0 true
    ∷ marked (one 6) 0 false
    ∷ marked (two 7) 0 false
    ∷ marked (one 8) 0 true
    ∷ marked (two 3) 0 false
    ∷ marked (two 8) 0 false
    ∷ marked (one 3) 1 false
    ∷ marked (1 ∷ 255 ∷ []) 0 false
    ∷ marked day 2 true
    ∷ marked day 0 false
    ∷ marked day 3 false
    ∷ marked nested 0 true
    ∷ marked nested 1 true
    ∷ marked nested 2 false
    ∷ []

marks-right : map (λ k. marked k.plan k.node (can_mark k.plan k.node)) marks ≡ marks
unfolding marked marks can_mark can_repeat child_count size kind_byte parent children_below children keep up_from
marks-right = refl

-- S2, S3: a template, how many times, the repeated tree, how many nodes it has, and its plan
record Grown : Type 0 where
  plan : List ℕ
  node : ℕ
  count : ℕ
  stands : Forest
  nodes : ℕ
  new : List ℕ

grown : List ℕ → ℕ → ℕ → Forest → ℕ → List ℕ → Grown
grown p m r t n q = record { plan = p; node = m; count = r; stands = t; nodes = n; new = q }

trees : List Grown
trees =
    grown (one 3) 0 1 (tree 3 (leaf none) none) 2 (one 3)
    ∷ grown (one 8) 0 3 (tree 8 (leaf (leaf (leaf none))) none) 4 (8 ∷ 255 ∷ 1 ∷ 0 ∷ 1 ∷ 0 ∷ 1 ∷ 0 ∷ [])
    ∷ grown day 2 1 (tree 2 (leaf (tree 3 (tree 2 (leaf (leaf none)) none) (leaf none))) none) 7 day
    ∷ grown day 2 2 (tree 2 (leaf (tree 3 (tree 2 (leaf (leaf none)) (tree 2 (leaf (leaf none)) none)) (leaf none))) none) 10
    (2 ∷ 255 ∷ 1 ∷ 0 ∷ 3 ∷ 0 ∷ 2 ∷ 2 ∷ 1 ∷ 3 ∷ 1 ∷ 3 ∷ 2 ∷ 2 ∷ 1 ∷ 6 ∷ 1 ∷ 6 ∷ 1 ∷ 0 ∷ [])
    ∷ grown mixed 1 1 (tree 2 (tree 3 (tree 2 (leaf (leaf none)) none) (leaf none)) none) 6 (2 ∷ 255 ∷ 3 ∷ 0 ∷ 2 ∷ 1 ∷ 1 ∷ 2 ∷ 1 ∷ 2 ∷ 1 ∷ 0 ∷ [])
    ∷ grown mixed 1 2 (tree 2 (tree 3 (tree 2 (leaf (leaf none)) (tree 2 (leaf (leaf none)) none)) (leaf none)) none) 9
    (2 ∷ 255 ∷ 3 ∷ 0 ∷ 2 ∷ 1 ∷ 1 ∷ 2 ∷ 1 ∷ 2 ∷ 2 ∷ 1 ∷ 1 ∷ 5 ∷ 1 ∷ 5 ∷ 1 ∷ 0 ∷ [])
    ∷ grown nested 0 2 (tree 4 (tree 5 (leaf none) (tree 5 (leaf none) none)) none) 5 (4 ∷ 255 ∷ 5 ∷ 0 ∷ 1 ∷ 1 ∷ 5 ∷ 0 ∷ 1 ∷ 3 ∷ [])
    ∷ grown nested 1 2 (tree 4 (tree 5 (leaf (leaf none)) none) none) 4 (4 ∷ 255 ∷ 5 ∷ 0 ∷ 1 ∷ 1 ∷ 1 ∷ 1 ∷ [])
    ∷ []

trees-right : map (λ k. grown k.plan k.node k.count (repeated_tree k.plan k.node k.count) (node_count (repeated_tree k.plan k.node k.count)) (repeated k.plan k.node k.count)) trees ≡ trees
unfolding grown trees repeated repeated_tree repeated_below repeated_within times beside written trees_below below_within trees_of node_count size kind_byte parent children_below children keep up_from
trees-right = refl

-- S4, S5: the check's number of a repeated plan, and whether it is in the fixed numbering
checks-right : map (λ k. check_number (repeated k.plan k.node k.count)) trees ≡ map (λ k. 0) trees
unfolding grown trees repeated repeated_tree repeated_below repeated_within times beside written trees_below below_within trees_of node_count check_number length_ok at_all kind_ok parent_ok under_block fits count_ok depth_ok kind_of size kind_byte kind parent children_below children child_count depth_within depth keep up_from all_below
checks-right = refl

orders-right : map (λ k. in_preorder (repeated k.plan k.node k.count)) trees ≡ map (λ k. true) trees
unfolding grown trees repeated repeated_tree repeated_below repeated_within times beside written trees_below below_within trees_of node_count in_preorder follows is_above above_within at_all size kind_byte parent children_below children keep up_from all_below
orders-right = refl

-- S9: numbers from 3 on move by 4
moves-right : map (moved 3 4) (0 ∷ 2 ∷ 3 ∷ 4 ∷ 9 ∷ []) ≡ 0 ∷ 2 ∷ 7 ∷ 8 ∷ 13 ∷ []
unfolding moved
moves-right = refl

-- S6, S8: a call: how many bytes are lent, its number, the nodes written, and the plan where it passes
record Called : Type 0 where
  plan : List ℕ
  node : ℕ
  count : ℕ
  lent : ℕ
  number : ℕ
  nodes : ℕ
  new : List ℕ

refused : List ℕ → ℕ → ℕ → ℕ → ℕ → Called
refused p m r lent n = record { plan = p; node = m; count = r; lent = lent; number = n; nodes = 0; new = [] }

passes : List ℕ → ℕ → ℕ → ℕ → List ℕ → Called
passes p m r n q = record { plan = p; node = m; count = r; lent = 320; number = 0; nodes = n; new = q }

-- n nines
nines : ℕ → List ℕ
nines zero = []
nines (suc n) = 9 ∷ nines n

-- n tasks below u
tasks : ℕ → ℕ → List ℕ
tasks zero u = []
tasks (suc n) u = 1 ∷ u ∷ tasks n u

-- n serials below 1, each of four tasks, from node v on
serials : ℕ → ℕ → List ℕ
serials zero v = []
serials (suc n) v = 2 ∷ 1 ∷ (tasks 4 v ++ serials n (v + 5))

-- serial 0: and 1 of serial 2 of four tasks, then three tasks and the tasks x
abbrev ten : List ℕ → List ℕ
ten x = 2 ∷ 255 ∷ 3 ∷ 0 ∷ 2 ∷ 1 ∷ (tasks 4 2 ++ tasks 3 0 ++ x)

calls : List Called
calls =
    passes (one 3) 0 1 2 (one 3)
    ∷ passes nested 0 2 5 (4 ∷ 255 ∷ 5 ∷ 0 ∷ 1 ∷ 1 ∷ 5 ∷ 0 ∷ 1 ∷ 3 ∷ [])
    ∷ passes nested 1 3 5 (4 ∷ 255 ∷ 5 ∷ 0 ∷ 1 ∷ 1 ∷ 1 ∷ 1 ∷ 1 ∷ 1 ∷ [])
    ∷ passes (one 8) 0 32 33 (8 ∷ 255 ∷ tasks 32 0)
    ∷ refused (one 3) 0 0 320 24
    ∷ refused (one 3) 0 33 320 24
    ∷ refused (one 3) 0 257 320 24
    ∷ refused (one 3) 2 1 320 8
    ∷ refused (one 3) 256 1 320 8
    ∷ refused (one 3) 1 1 320 23
    ∷ refused (one 2) 0 1 320 23
    ∷ refused (two 3) 0 1 320 23
    ∷ refused (one 3) 0 1 319 7
    ∷ refused (one 3) 0 1 321 7
    ∷ refused (one 3) 0 1 4 7
    ∷ passes (ten []) 1 31 160 (2 ∷ 255 ∷ 3 ∷ 0 ∷ (serials 31 2 ++ tasks 3 0))
    ∷ refused (ten []) 1 32 320 25
    ∷ refused (ten (1 ∷ 0 ∷ [])) 1 31 320 25
    -- the first number that fits
    ∷ refused (one 2) 9 0 319 7
    ∷ refused (one 2) 9 0 320 8
    ∷ refused (one 2) 0 0 320 23
    ∷ refused (ten []) 1 33 320 24
    ∷ refused [] 9 0 319 1
    ∷ refused (9 ∷ 255 ∷ []) 9 0 319 2
    ∷ refused (3 ∷ 0 ∷ []) 9 0 319 3
    ∷ refused (3 ∷ 255 ∷ 1 ∷ 0 ∷ 1 ∷ 1 ∷ []) 9 0 319 4
    ∷ refused (3 ∷ 255 ∷ []) 9 0 319 5
    ∷ []

calls-right : map (λ k. repeat_of k.plan k.node k.count (nines k.lent)) calls ≡
    map (λ k. made k.number k.nodes (cond (eqb k.number 0) (k.new ++ nines (320 - 2 * k.nodes)) (nines k.lent))) calls
unfolding refused passes nines tasks serials calls repeat_of repeat_number template_number times_ok in_front can_mark can_repeat repeated repeated_tree repeated_below repeated_within times beside written trees_below below_within trees_of node_count fit_number check_number length_ok at_all kind_ok parent_ok under_block fits count_ok depth_ok kind_of size kind_byte kind parent children_below children child_count depth_within depth keep up_from all_below
calls-right = refl
