-- Plans, their trees, and what renumbering makes of them (rules R1 to R5), worked out by hand from the rules. Assumes nothing.
use mathlib.Core.Path.{◌≡◌, refl}
use mathlib.Core.Bool.{Bool, true, false, cond}
use mathlib.Core.List.{List, [], ◌∷◌, map}
use Prim.Native.Nat.{ℕ, zero, suc}
use lib.Dec.{eqb}
use Rattle.lists.specs.Seq.{keep, up_from, all_below}
use Rattle.plan.specs.Plan.{kind_of, size, kind_byte, kind, parent, children_below, children, child_count, depth_within, depth}
use Rattle.plan.specs.Check.{length_ok, kind_ok, parent_ok, under_block, fits, count_ok, depth_ok, at_all, check_number, fit_number}
use Rattle.plan.specs.Replaced.{replaced}
use Rattle.trees.specs.Tree.{Forest, none, tree, trees_of, below_within, trees_below, tree_of, node_count}
use Rattle.trees.specs.Numbering.{written, renumbered, above_within, is_above, follows, in_preorder}
use Rattle.trees.specs.Renumber.{renumber_number, renumber_of}

-- serial 0: task 1, xor 2 of tasks 3 and 4, task 5
abbrev P : List ℕ
P = 2 ∷ 255 ∷ 1 ∷ 0 ∷ 5 ∷ 0 ∷ 1 ∷ 2 ∷ 1 ∷ 2 ∷ 1 ∷ 0 ∷ []

-- serial 0: and 1 of tasks 3 and 5, or 2 of task 4
abbrev Q : List ℕ
Q = 2 ∷ 255 ∷ 3 ∷ 0 ∷ 4 ∷ 0 ∷ 1 ∷ 1 ∷ 1 ∷ 2 ∷ 1 ∷ 1 ∷ []

-- contingency 0: and 1 of task 3, serial 2 of task 4; and the same tree with tasks 4 and 3 in their places
abbrev near : List ℕ
near = 6 ∷ 255 ∷ 3 ∷ 0 ∷ 2 ∷ 0 ∷ 1 ∷ 1 ∷ 1 ∷ 2 ∷ []

abbrev crossed : List ℕ
crossed = 6 ∷ 255 ∷ 3 ∷ 0 ∷ 2 ∷ 0 ∷ 1 ∷ 2 ∷ 1 ∷ 1 ∷ []

-- contingency 0: serial 1 of task 3, and 2 of task 4: the blocks in the other order
abbrev turned : List ℕ
turned = 6 ∷ 255 ∷ 2 ∷ 0 ∷ 3 ∷ 0 ∷ 1 ∷ 1 ∷ 1 ∷ 2 ∷ []

-- serial 0: serial 1 of tasks 4 and 7, waiting and 2 of task 3 and or 5, which has task 6
abbrev mixed : List ℕ
mixed = 2 ∷ 255 ∷ 2 ∷ 0 ∷ 8 ∷ 0 ∷ 1 ∷ 2 ∷ 1 ∷ 1 ∷ 4 ∷ 2 ∷ 1 ∷ 5 ∷ 1 ∷ 1 ∷ []

-- serial 0: serial 1 of serial 2 of task 4, task 3: node 4 comes back to a subtree that node 3 has left
abbrev late : List ℕ
late = 2 ∷ 255 ∷ 2 ∷ 0 ∷ 2 ∷ 1 ∷ 1 ∷ 0 ∷ 1 ∷ 2 ∷ []

-- serial 0: serial 1 of serial 3 of task 5, and 2 of task 4
abbrev deep : List ℕ
deep = 2 ∷ 255 ∷ 2 ∷ 0 ∷ 3 ∷ 0 ∷ 2 ∷ 1 ∷ 1 ∷ 2 ∷ 1 ∷ 3 ∷ []

abbrev leaf : Forest → Forest
leaf t = tree 1 none t

-- R1: a plan and its tree
record Grown : Type 0 where
  plan : List ℕ
  stands : Forest

grown : List ℕ → Forest → Grown
grown p t = record { plan = p; stands = t }

trees : List Grown
trees =
    grown (1 ∷ 255 ∷ []) (leaf none)
    ∷ grown P (tree 2 (leaf (tree 5 (leaf (leaf none)) (leaf none))) none)
    ∷ grown Q (tree 2 (tree 3 (leaf (leaf none)) (tree 4 (leaf none) none)) none)
    ∷ grown near (tree 6 (tree 3 (leaf none) (tree 2 (leaf none) none)) none)
    ∷ grown crossed (tree 6 (tree 3 (leaf none) (tree 2 (leaf none) none)) none)
    ∷ grown turned (tree 6 (tree 2 (leaf none) (tree 3 (leaf none) none)) none)
    ∷ grown mixed (tree 2 (tree 2 (leaf (leaf none)) (tree 8 (leaf (tree 4 (leaf none) none)) none)) none)
    ∷ grown deep (tree 2 (tree 2 (tree 2 (leaf none) none) (tree 3 (leaf none) none)) none)
    ∷ grown late (tree 2 (tree 2 (tree 2 (leaf none) none) (leaf none)) none)
    ∷ []

trees-right : map (λ k. tree_of k.plan) trees ≡ map (λ k. k.stands) trees
unfolding grown trees tree_of trees_below below_within trees_of size kind_byte parent children_below children keep up_from
trees-right = refl

-- R2, R3: whether a plan is in the fixed numbering, and the plan renumbered
record Numbered : Type 0 where
  plan : List ℕ
  in_order : Bool
  new : List ℕ

numbered : List ℕ → Bool → List ℕ → Numbered
numbered p b q = record { plan = p; in_order = b; new = q }

numberings : List Numbered
numberings =
    numbered (1 ∷ 255 ∷ []) true (1 ∷ 255 ∷ [])
    ∷ numbered (2 ∷ 255 ∷ 1 ∷ 0 ∷ 1 ∷ 0 ∷ []) true (2 ∷ 255 ∷ 1 ∷ 0 ∷ 1 ∷ 0 ∷ [])
    ∷ numbered P true P
    ∷ numbered Q false (2 ∷ 255 ∷ 3 ∷ 0 ∷ 1 ∷ 1 ∷ 1 ∷ 1 ∷ 4 ∷ 0 ∷ 1 ∷ 4 ∷ [])
    ∷ numbered near false (6 ∷ 255 ∷ 3 ∷ 0 ∷ 1 ∷ 1 ∷ 2 ∷ 0 ∷ 1 ∷ 3 ∷ [])
    ∷ numbered crossed false (6 ∷ 255 ∷ 3 ∷ 0 ∷ 1 ∷ 1 ∷ 2 ∷ 0 ∷ 1 ∷ 3 ∷ [])
    ∷ numbered turned false (6 ∷ 255 ∷ 2 ∷ 0 ∷ 1 ∷ 1 ∷ 3 ∷ 0 ∷ 1 ∷ 3 ∷ [])
    ∷ numbered mixed false (2 ∷ 255 ∷ 2 ∷ 0 ∷ 1 ∷ 1 ∷ 1 ∷ 1 ∷ 8 ∷ 0 ∷ 1 ∷ 4 ∷ 4 ∷ 4 ∷ 1 ∷ 6 ∷ [])
    ∷ numbered deep false (2 ∷ 255 ∷ 2 ∷ 0 ∷ 2 ∷ 1 ∷ 1 ∷ 2 ∷ 3 ∷ 0 ∷ 1 ∷ 4 ∷ [])
    ∷ numbered late false (2 ∷ 255 ∷ 2 ∷ 0 ∷ 2 ∷ 1 ∷ 1 ∷ 2 ∷ 1 ∷ 0 ∷ [])
    ∷ numbered (2 ∷ 255 ∷ 2 ∷ 0 ∷ 2 ∷ 1 ∷ 1 ∷ 2 ∷ 1 ∷ 0 ∷ []) true (2 ∷ 255 ∷ 2 ∷ 0 ∷ 2 ∷ 1 ∷ 1 ∷ 2 ∷ 1 ∷ 0 ∷ [])
    ∷ []

numberings-right : map (λ k. numbered k.plan (in_preorder k.plan) (renumbered k.plan)) numberings ≡ numberings
unfolding numbered numberings in_preorder follows is_above above_within at_all renumbered written tree_of trees_below below_within trees_of node_count size kind_byte parent children_below children keep up_from all_below
numberings-right = refl

-- R5: a call with bytes lent: its number, and what is written where it passes
record Called : Type 0 where
  plan : List ℕ
  lent : List ℕ
  number : ℕ
  new : List ℕ

refused : List ℕ → List ℕ → ℕ → Called
refused p out n = record { plan = p; lent = out; number = n; new = [] }

passes : List ℕ → List ℕ → List ℕ → Called
passes p out q = record { plan = p; lent = out; number = 0; new = q }

-- n nines
nines : ℕ → List ℕ
nines zero = []
nines (suc n) = 9 ∷ nines n

-- serials in a chain from node v on, n of them, and a task at its end
chain : ℕ → ℕ → List ℕ
chain zero v = 1 ∷ v ∷ []
chain (suc n) v = 2 ∷ v ∷ chain n (suc v)

calls : List Called
calls =
    passes Q (nines 12) (2 ∷ 255 ∷ 3 ∷ 0 ∷ 1 ∷ 1 ∷ 1 ∷ 1 ∷ 4 ∷ 0 ∷ 1 ∷ 4 ∷ [])
    ∷ passes P (nines 12) P
    ∷ passes (1 ∷ 255 ∷ []) (nines 2) (1 ∷ 255 ∷ [])
    ∷ refused Q (nines 11) 7
    ∷ refused Q (nines 13) 7
    ∷ refused Q [] 7
    ∷ refused [] [] 1
    ∷ refused (1 ∷ 255 ∷ 1 ∷ []) (nines 2) 1
    ∷ refused (9 ∷ 255 ∷ []) (nines 2) 2
    ∷ refused (1 ∷ 0 ∷ []) (nines 2) 3
    ∷ refused (2 ∷ 255 ∷ 1 ∷ 0 ∷ 1 ∷ 1 ∷ []) (nines 6) 4
    ∷ refused (2 ∷ 255 ∷ []) (nines 9) 5
    ∷ refused (2 ∷ 255 ∷ chain 31 0) (nines 9) 6
    ∷ []

calls-right : map (λ k. renumber_of k.plan k.lent) calls ≡ map (λ k. replaced k.number (cond (eqb k.number 0) k.new k.lent)) calls
unfolding refused passes nines chain calls renumber_of renumber_number renumbered written tree_of trees_below below_within trees_of node_count fit_number check_number length_ok at_all kind_ok parent_ok under_block fits count_ok depth_ok kind_of size kind_byte kind parent children_below children child_count depth_within depth keep up_from all_below
calls-right = refl
