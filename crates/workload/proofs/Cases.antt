-- The generator, loads and calls worked out by hand from the rules (U1 to U3, U5). Assumes nothing.
use Rattle.std.proofs.Common.{◌≡◌, ℕ, zero, suc, cond, eqb, List, [], ◌∷◌, map, refl}
use Rattle.lists.specs.Seq.{up_from, all_below, keep}
use Rattle.plan.specs.Plan.{kind_of, size, kind_byte, kind, parent, children_below, children, child_count, depth_within, depth}
use Rattle.plan.specs.Check.{length_ok, kind_ok, parent_ok, under_block, fits, count_ok, depth_ok, at_all, check_number, fit_number}
use Rattle.plan.specs.Replaced.{replaced}
use Rattle.workload.specs.Load.{moved, after, draw, step_at, load}
use Rattle.workload.specs.Call.{load_number, load_of}

-- U1: from a number to the next, and what is drawn there
record Move : Type 0 where
  seed : ℕ
  next : ℕ
  drawn : ℕ

move : ℕ → ℕ → ℕ → Move
move s t d = record { seed = s; next = t; drawn = d }

moves : List Move
moves =
    move 0 1013904223 15470
    ∷ move 1 1015568748 15496
    ∷ move 2 1017233273 15521
    ∷ move 2147483647 3159723346 48213
    ∷ move 2147483648 3161387871 48238
    ∷ move 4294967295 1012239698 15445
    ∷ move 1013904223 1196435762 18256
    ∷ []

moves-right : map (λ (k : Move). move k.seed (moved k.seed) (draw (moved k.seed))) moves ≡ moves
unfolding moves move moved draw
moves-right = refl

-- U2, U3: the load of so many steps from a seed, by the number of nodes
record Drawn : Type 0 where
  nodes : ℕ
  count : ℕ
  seed : ℕ
  bytes : List ℕ

drawn : ℕ → ℕ → ℕ → List ℕ → Drawn
drawn n c s l = record { nodes = n; count = c; seed = s; bytes = l }

loads : List Drawn
loads =
    drawn 6 3 0 (1 ∷ 2 ∷ 255 ∷ 7 ∷ 2 ∷ 255 ∷ 1 ∷ 2 ∷ 1 ∷ [])
    ∷ drawn 6 3 1 (1 ∷ 4 ∷ 255 ∷ 1 ∷ 2 ∷ 255 ∷ 6 ∷ 3 ∷ 255 ∷ [])
    ∷ drawn 6 3 4294967295 (8 ∷ 3 ∷ 3 ∷ 5 ∷ 5 ∷ 4 ∷ 4 ∷ 2 ∷ 255 ∷ [])
    ∷ drawn 1 4 0 (1 ∷ 0 ∷ 255 ∷ 7 ∷ 0 ∷ 255 ∷ 1 ∷ 0 ∷ 0 ∷ 7 ∷ 0 ∷ 0 ∷ [])
    ∷ drawn 160 3 0 (1 ∷ 108 ∷ 255 ∷ 7 ∷ 126 ∷ 255 ∷ 1 ∷ 54 ∷ 17 ∷ [])
    ∷ drawn 160 2 2147483648 (1 ∷ 140 ∷ 255 ∷ 7 ∷ 94 ∷ 255 ∷ [])
    ∷ drawn 2 0 7 ([])
    ∷ drawn 6 12 0 (1 ∷ 2 ∷ 255 ∷ 7 ∷ 2 ∷ 255 ∷ 1 ∷ 2 ∷ 1 ∷ 7 ∷ 4 ∷ 2 ∷ 2 ∷ 3 ∷ 3 ∷ 6 ∷ 2 ∷ 255 ∷ 4 ∷ 0 ∷ 1 ∷ 4 ∷ 3 ∷ 255 ∷ 2 ∷ 4 ∷ 5 ∷ 7 ∷ 0 ∷ 0 ∷ 3 ∷ 0 ∷ 255 ∷ 1 ∷ 5 ∷ 0 ∷ [])
    ∷ []

loads-right : map (λ (k : Drawn). load k.nodes k.count k.seed) loads ≡ map (λ (k : Drawn). k.bytes) loads
unfolding loads drawn load step_at draw after moved
loads-right = refl

-- U5: the call
record Called : Type 0 where
  plan : List ℕ
  seed : ℕ
  count : ℕ
  lent : List ℕ
  number : ℕ
  new : List ℕ

passes : List ℕ → ℕ → ℕ → List ℕ → List ℕ → Called
passes p s c out new = record { plan = p; seed = s; count = c; lent = out; number = 0; new = new }

refused : List ℕ → ℕ → ℕ → List ℕ → ℕ → Called
refused p s c out k = record { plan = p; seed = s; count = c; lent = out; number = k; new = [] }

nines : ℕ → List ℕ
nines zero = []
nines (suc n) = 9 ∷ nines n

-- serials in a chain from node v on, n of them, and a task at its end
chain : ℕ → ℕ → List ℕ
chain zero v = 1 ∷ v ∷ []
chain (suc n) v = 2 ∷ v ∷ chain n (suc v)

P : List ℕ
P = 2 ∷ 255 ∷ 1 ∷ 0 ∷ 5 ∷ 0 ∷ 1 ∷ 2 ∷ 1 ∷ 2 ∷ 1 ∷ 0 ∷ []

calls : List Called
calls =
    passes P 0 3 (nines 9) (1 ∷ 2 ∷ 255 ∷ 7 ∷ 2 ∷ 255 ∷ 1 ∷ 2 ∷ 1 ∷ [])
    ∷ passes (1 ∷ 255 ∷ []) 5 2 (nines 6) (2 ∷ 0 ∷ 0 ∷ 1 ∷ 0 ∷ 255 ∷ [])
    ∷ passes P 0 0 [] []
    ∷ refused P 0 3 (nines 8) 7
    ∷ refused P 0 3 (nines 10) 7
    ∷ refused P 0 3 (nines 3) 7
    ∷ refused P 0 0 (nines 1) 7
    ∷ refused P 0 4294967295 (nines 9) 7
    ∷ refused [] 0 1 (nines 3) 1
    ∷ refused (1 ∷ 255 ∷ 1 ∷ []) 0 1 (nines 9) 1
    ∷ refused (9 ∷ 255 ∷ []) 0 1 (nines 3) 2
    ∷ refused (1 ∷ 0 ∷ []) 0 1 (nines 3) 3
    ∷ refused (2 ∷ 255 ∷ 1 ∷ 0 ∷ 1 ∷ 1 ∷ []) 0 1 (nines 3) 4
    ∷ refused (2 ∷ 255 ∷ []) 0 1 (nines 4) 5
    ∷ refused (2 ∷ 255 ∷ chain 31 0) 0 1 (nines 3) 6
    ∷ []

calls-right : map (λ (k : Called). load_of k.plan k.seed k.count k.lent) calls ≡ map (λ (k : Called). replaced k.number (cond (eqb k.number 0) k.new k.lent)) calls
unfolding calls passes refused nines chain P load_of load_number load step_at draw after moved fit_number check_number length_ok at_all kind_ok parent_ok under_block fits count_ok depth_ok kind_of size kind_byte kind parent children_below children child_count depth_within depth keep up_from all_below
calls-right = refl
