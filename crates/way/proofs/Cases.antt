-- Worked calls for a way (rules Q6, Q7): refused ones, ways, and targets that no list leads to. Worked out by hand from the rules. A way is
-- tested front by front (`least_by`), which says what `smallest` finds without trying every list. Assumes nothing.
use mathlib.Core.Path.{◌≡◌, refl, ◌∙◌, ap₂, subst}
use mathlib.Core.Bool.{Bool, true, false, cond, ◌&&◌, not}
use mathlib.Core.List.{List, [], ◌∷◌, map}
use mathlib.Core.Option.{some}
use Prim.Native.Nat.{ℕ, zero, suc, ◌+◌, ◌≤◌, ◌<◌}
use lib.Dec.{eqb, ltb}
use lib.ListN.{length, get_or, set, replicate}
use lib.Seq.{set-get_or}
use borrow.Author.Tests.{eqb-true, ltb-true, not-true}
use native.Mathlib.Omega.{arith}
use native.Mathlib.Numerals.{add-one}
use Rattle.lists.specs.Seq.{all, keep, up_from, all_below}
use Rattle.lists.proofs.Logic.{and_left, and_right}
use Rattle.lists.proofs.Below.{below_at}
use Rattle.plan.specs.Plan.{kind_number, is_kind, kind_of, size, kind_byte, kind, parent, children_below, children, child_count, depth_within, depth}
use Rattle.plan.specs.Check.{length_ok, kind_ok, parent_ok, under_block, fits, count_ok, depth_ok, at_all, Accepted, check_number, fit_number}
use Rattle.pass.specs.Pass.{goes_by, goes, one_or_two, bad_answer, bad_pick, closes, good_mark, child_mark, skip, note, ending, end_of, nothing, unwalked, child_settled, meet_by, meet, walk, close, settle_if, settle_by, settle, number_of, root_mark, pass_of, pass}
use Rattle.pass_nodes.specs.Nodes.{pass_mark}
use Rattle.lists.specs.Smallest.{Less, here, there, behind, or_else, first_below, smallest}
use Rattle.way.specs.Way.{can_want, leads, way, WayResult, way_result, found_into, way_into}
use Rattle.way.specs.Can.{stops, works_by, breaks_by, can_by, can_within, can_at, fits_of, allows_of, open_at}
use Rattle.way.proofs.CallLaws.{target_told, fit-told, into-found}
use Rattle.lists.proofs.OrderLaws.{less-apart}
use Rattle.way.proofs.Greedy.{Asked, Chosen, chosen_none, chosen-turn, chosen-all, way-empty}

-- a call with the answers lent: its number, and the way where it passes
pub record Case : Type 0 where
  pub plan : List ℕ
  pub node : ℕ
  pub mark : ℕ
  pub end : ℕ
  pub lent : List ℕ
  pub number : ℕ
  pub found : List ℕ

-- a refused call leaves the answers
refused : List ℕ → ℕ → ℕ → ℕ → List ℕ → ℕ → Case
refused p v m e a n = record { plan = p; node = v; mark = m; end = e; lent = a; number = n; found = [] }

-- nines are lent, and the way is left
there-by : List ℕ → ℕ → ℕ → ℕ → List ℕ → Case
there-by p v m e l = record { plan = p; node = v; mark = m; end = e; lent = replicate (size p) 9; number = 0; found = l }

-- and there is none
closed : List ℕ → ℕ → ℕ → ℕ → Case
closed p v m e = refused p v m e (replicate (size p) 9) 30

abbrev called : Case → WayResult
called k = way_into k.plan k.node k.mark k.end k.lent

abbrev expected : Case → WayResult
expected k = way_result k.number (cond (eqb k.number 0) k.found k.lent)

-- serial 0: task 1, xor 2 of tasks 3 and 4, task 5
abbrev P : List ℕ
P = 2 ∷ 255 ∷ 1 ∷ 0 ∷ 5 ∷ 0 ∷ 1 ∷ 2 ∷ 1 ∷ 2 ∷ 1 ∷ 0 ∷ []

-- xor 0: and 1 of tasks 4 and 5, xor 2 of tasks 6 and 7, task 3
abbrev choices : List ℕ
choices = 5 ∷ 255 ∷ 3 ∷ 0 ∷ 5 ∷ 0 ∷ 1 ∷ 0 ∷ 1 ∷ 1 ∷ 1 ∷ 1 ∷ 1 ∷ 2 ∷ 1 ∷ 2 ∷ []

-- serial 0: conditional 1 of contingency 2, which has tasks 4, 5 and 6, and of task 3; or 7 of tasks 8 and 9
abbrev branches : List ℕ
branches = 2 ∷ 255 ∷ 7 ∷ 0 ∷ 6 ∷ 1 ∷ 1 ∷ 1 ∷ 1 ∷ 2 ∷ 1 ∷ 2 ∷ 1 ∷ 2 ∷ 4 ∷ 0 ∷ 1 ∷ 7 ∷ 1 ∷ 7 ∷ []

-- waiting and 0: xor 1 of serial 2, which has tasks 8 and 9, and of task 3; and 4 of or 5, which has task 6, and of task 7
abbrev waits : List ℕ
waits = 8 ∷ 255 ∷ 5 ∷ 0 ∷ 2 ∷ 1 ∷ 1 ∷ 1 ∷ 3 ∷ 0 ∷ 4 ∷ 4 ∷ 1 ∷ 5 ∷ 1 ∷ 4 ∷ 1 ∷ 2 ∷ 1 ∷ 2 ∷ []

-- contingency 0: and 1 of tasks 4 and 5, conditional 2 of tasks 6 and 7, task 3
abbrev tries : List ℕ
tries = 6 ∷ 255 ∷ 3 ∷ 0 ∷ 7 ∷ 0 ∷ 1 ∷ 0 ∷ 1 ∷ 1 ∷ 1 ∷ 1 ∷ 1 ∷ 2 ∷ 1 ∷ 2 ∷ []

-- a task, a block of this kind over one task, over two, over three
abbrev one : List ℕ
one = 1 ∷ 255 ∷ []

abbrev lone : ℕ → List ℕ
lone k = k ∷ 255 ∷ 1 ∷ 0 ∷ []

abbrev pair : ℕ → List ℕ
pair k = k ∷ 255 ∷ 1 ∷ 0 ∷ 1 ∷ 0 ∷ []

abbrev triple : ℕ → List ℕ
triple k = k ∷ 255 ∷ 1 ∷ 0 ∷ 1 ∷ 0 ∷ 1 ∷ 0 ∷ []

-- n tasks below the root
pub tasks : ℕ → List ℕ
tasks zero = []
tasks (suc n) = 1 ∷ 0 ∷ tasks n

-- n serials and a task, each the only child of the node before, from u on
pub chain : ℕ → ℕ → List ℕ
chain zero u = 1 ∷ u ∷ []
chain (suc n) u = 2 ∷ u ∷ chain n (suc u)

pub refusals : List Case
refusals =
    -- 1 to 6, before 7 and 8
    refused [] 9 1 5 (7 ∷ []) 1
    ∷ refused (2 ∷ 255 ∷ 1 ∷ []) 9 1 5 [] 1
    ∷ refused (pair 9) 9 1 5 [] 2
    ∷ refused (2 ∷ 0 ∷ 1 ∷ 0 ∷ []) 9 1 5 [] 3
    ∷ refused (1 ∷ 255 ∷ 1 ∷ 0 ∷ []) 9 1 5 [] 4
    ∷ refused (2 ∷ 255 ∷ []) 9 1 5 [] 5
    ∷ refused (2 ∷ 255 ∷ chain 31 0) 99 1 5 [] 6
    -- 7, before 8 and 29
    ∷ refused P 6 1 5 (7 ∷ 7 ∷ 7 ∷ 7 ∷ 7 ∷ []) 7
    ∷ refused P 0 3 3 (7 ∷ 7 ∷ 7 ∷ 7 ∷ 7 ∷ 7 ∷ 7 ∷ []) 7
    ∷ refused P 0 3 3 [] 7
    -- 8, before 29
    ∷ refused P 6 1 5 (7 ∷ 7 ∷ 7 ∷ 7 ∷ 7 ∷ 7 ∷ []) 8
    ∷ refused P 6 3 3 (7 ∷ 7 ∷ 7 ∷ 7 ∷ 7 ∷ 7 ∷ []) 8
    ∷ refused P 6 0 3 (7 ∷ 7 ∷ 7 ∷ 7 ∷ 7 ∷ 7 ∷ []) 8
    ∷ refused P 4294967295 3 3 (7 ∷ 7 ∷ 7 ∷ 7 ∷ 7 ∷ 7 ∷ []) 8
    -- 29: marks that no node ends with, or that are no marks
    ∷ refused P 0 1 3 (7 ∷ 7 ∷ 7 ∷ 7 ∷ 7 ∷ 7 ∷ []) 29
    ∷ refused P 0 2 3 (7 ∷ 7 ∷ 7 ∷ 7 ∷ 7 ∷ 7 ∷ []) 29
    ∷ refused P 0 6 3 (7 ∷ 7 ∷ 7 ∷ 7 ∷ 7 ∷ 7 ∷ []) 29
    ∷ refused P 0 256 3 (7 ∷ 7 ∷ 7 ∷ 7 ∷ 7 ∷ 7 ∷ []) 29
    ∷ refused P 0 259 3 (7 ∷ 7 ∷ 7 ∷ 7 ∷ 7 ∷ 7 ∷ []) 29
    -- ends that a root cannot have
    ∷ refused P 0 3 0 (7 ∷ 7 ∷ 7 ∷ 7 ∷ 7 ∷ 7 ∷ []) 29
    ∷ refused P 0 3 1 (7 ∷ 7 ∷ 7 ∷ 7 ∷ 7 ∷ 7 ∷ []) 29
    ∷ refused P 0 3 2 (7 ∷ 7 ∷ 7 ∷ 7 ∷ 7 ∷ 7 ∷ []) 29
    ∷ refused P 0 3 5 (7 ∷ 7 ∷ 7 ∷ 7 ∷ 7 ∷ 7 ∷ []) 29
    ∷ refused P 0 3 259 (7 ∷ 7 ∷ 7 ∷ 7 ∷ 7 ∷ 7 ∷ []) 29
    ∷ refused P 0 3 260 (7 ∷ 7 ∷ 7 ∷ 7 ∷ 7 ∷ 7 ∷ []) 29
    -- both, and though the mark or the end alone has no way
    ∷ refused P 1 1 5 (7 ∷ 7 ∷ 7 ∷ 7 ∷ 7 ∷ 7 ∷ []) 29
    ∷ refused P 1 5 5 (7 ∷ 7 ∷ 7 ∷ 7 ∷ 7 ∷ 7 ∷ []) 29
    ∷ refused P 1 1 4 (7 ∷ 7 ∷ 7 ∷ 7 ∷ 7 ∷ 7 ∷ []) 29
    ∷ refused P 0 0 0 (7 ∷ 7 ∷ 7 ∷ 7 ∷ 7 ∷ 7 ∷ []) 29
    ∷ []

-- few nodes, so that `smallest` itself can be computed
pub tried : List Case
tried =
    -- a task that works, that fails; it does not end otherwise, is reached, and is no child of an xor
    there-by one 0 3 3 (1 ∷ [])
    ∷ there-by one 0 4 4 (2 ∷ [])
    ∷ closed one 0 3 4
    ∷ closed one 0 4 3
    ∷ closed one 0 0 3
    ∷ closed one 0 5 3
    -- the answers of a block of another kind are not read; an xor's is its child's place, or 0
    ∷ there-by (lone 2) 1 3 3 (0 ∷ 1 ∷ [])
    ∷ there-by (lone 3) 1 4 4 (0 ∷ 2 ∷ [])
    ∷ there-by (lone 4) 0 4 4 (0 ∷ 2 ∷ [])
    ∷ there-by (lone 5) 1 3 3 (1 ∷ 1 ∷ [])
    ∷ there-by (lone 5) 1 4 4 (0 ∷ 2 ∷ [])
    ∷ there-by (lone 6) 1 3 3 (0 ∷ 1 ∷ [])
    ∷ there-by (lone 8) 0 3 3 (0 ∷ 1 ∷ [])
    -- two children
    ∷ there-by (pair 2) 0 4 4 (0 ∷ 1 ∷ 2 ∷ [])
    ∷ there-by (pair 2) 2 0 4 (0 ∷ 2 ∷ 0 ∷ [])
    ∷ there-by (pair 3) 1 4 4 (0 ∷ 2 ∷ 1 ∷ [])
    ∷ there-by (pair 4) 1 4 3 (0 ∷ 2 ∷ 1 ∷ [])
    ∷ there-by (pair 5) 0 4 4 (0 ∷ 2 ∷ 2 ∷ [])
    ∷ there-by (pair 6) 2 0 3 (0 ∷ 1 ∷ 0 ∷ [])
    ∷ there-by (pair 6) 2 3 3 (0 ∷ 2 ∷ 1 ∷ [])
    ∷ there-by (pair 8) 1 3 4 (0 ∷ 1 ∷ 2 ∷ [])
    ∷ []

pub ways : List Case
ways =
    -- a serial, its xor, and its last task: all work; the job fails, and it is the xor that fails, for 0 is its smallest answer
    there-by P 0 3 3 (0 ∷ 1 ∷ 1 ∷ 1 ∷ 1 ∷ 1 ∷ [])
    ∷ there-by P 0 4 4 (0 ∷ 1 ∷ 0 ∷ 2 ∷ 2 ∷ 0 ∷ [])
    -- its first task; what is not reached has 0
    ∷ there-by P 1 3 3 (0 ∷ 1 ∷ 1 ∷ 1 ∷ 1 ∷ 1 ∷ [])
    ∷ there-by P 1 3 4 (0 ∷ 1 ∷ 0 ∷ 2 ∷ 2 ∷ 0 ∷ [])
    ∷ there-by P 1 4 4 (0 ∷ 2 ∷ 0 ∷ 0 ∷ 0 ∷ 0 ∷ [])
    -- the xor is not reached, fails, commits, commits though the job fails
    ∷ there-by P 2 0 4 (0 ∷ 2 ∷ 0 ∷ 0 ∷ 0 ∷ 0 ∷ [])
    ∷ there-by P 2 4 4 (0 ∷ 1 ∷ 0 ∷ 2 ∷ 2 ∷ 0 ∷ [])
    ∷ there-by P 2 3 3 (0 ∷ 1 ∷ 1 ∷ 1 ∷ 1 ∷ 1 ∷ [])
    ∷ there-by P 2 3 4 (0 ∷ 1 ∷ 1 ∷ 1 ∷ 1 ∷ 2 ∷ [])
    -- its first child is turned down, fails, commits, is not reached
    ∷ there-by P 3 5 3 (0 ∷ 1 ∷ 2 ∷ 1 ∷ 1 ∷ 1 ∷ [])
    ∷ there-by P 3 5 4 (0 ∷ 1 ∷ 2 ∷ 1 ∷ 1 ∷ 2 ∷ [])
    ∷ there-by P 3 4 3 (0 ∷ 1 ∷ 2 ∷ 2 ∷ 1 ∷ 1 ∷ [])
    ∷ there-by P 3 4 4 (0 ∷ 1 ∷ 0 ∷ 2 ∷ 2 ∷ 0 ∷ [])
    ∷ there-by P 3 3 4 (0 ∷ 1 ∷ 1 ∷ 1 ∷ 1 ∷ 2 ∷ [])
    ∷ there-by P 3 0 4 (0 ∷ 2 ∷ 0 ∷ 0 ∷ 0 ∷ 0 ∷ [])
    -- its second child is picked by place 2, turned down, fails
    ∷ there-by P 4 3 3 (0 ∷ 1 ∷ 2 ∷ 1 ∷ 1 ∷ 1 ∷ [])
    ∷ there-by P 4 5 3 (0 ∷ 1 ∷ 1 ∷ 1 ∷ 1 ∷ 1 ∷ [])
    ∷ there-by P 4 4 3 (0 ∷ 1 ∷ 1 ∷ 1 ∷ 2 ∷ 1 ∷ [])
    -- the last task is not reached, fails
    ∷ there-by P 5 0 4 (0 ∷ 1 ∷ 0 ∷ 2 ∷ 2 ∷ 0 ∷ [])
    ∷ there-by P 5 4 4 (0 ∷ 1 ∷ 1 ∷ 1 ∷ 1 ∷ 2 ∷ [])
    -- a serial, an and, a waiting and: the first task works and the second fails, unless the first is to fail
    ∷ there-by (pair 2) 2 0 4 (0 ∷ 2 ∷ 0 ∷ [])
    ∷ there-by (pair 3) 0 4 4 (0 ∷ 1 ∷ 2 ∷ [])
    ∷ there-by (pair 3) 1 4 4 (0 ∷ 2 ∷ 1 ∷ [])
    ∷ there-by (pair 3) 2 3 4 (0 ∷ 2 ∷ 1 ∷ [])
    ∷ there-by (pair 8) 0 4 4 (0 ∷ 1 ∷ 2 ∷ [])
    ∷ there-by (pair 8) 2 3 4 (0 ∷ 2 ∷ 1 ∷ [])
    -- an or works by one, and fails with all
    ∷ there-by (pair 4) 0 3 3 (0 ∷ 1 ∷ 1 ∷ [])
    ∷ there-by (pair 4) 1 4 3 (0 ∷ 2 ∷ 1 ∷ [])
    ∷ there-by (pair 4) 2 4 3 (0 ∷ 1 ∷ 2 ∷ [])
    ∷ there-by (pair 4) 1 4 4 (0 ∷ 2 ∷ 2 ∷ [])
    -- a conditional: yes and no, and the branch that is not answered for
    ∷ there-by (pair 7) 0 3 3 (1 ∷ 1 ∷ 0 ∷ [])
    ∷ there-by (pair 7) 0 4 4 (1 ∷ 2 ∷ 0 ∷ [])
    ∷ there-by (pair 7) 1 0 3 (2 ∷ 0 ∷ 1 ∷ [])
    ∷ there-by (pair 7) 1 0 4 (2 ∷ 0 ∷ 2 ∷ [])
    ∷ there-by (pair 7) 2 0 4 (1 ∷ 2 ∷ 0 ∷ [])
    ∷ there-by (pair 7) 2 3 3 (2 ∷ 0 ∷ 1 ∷ [])
    -- a contingency and its third child
    ∷ there-by (triple 6) 3 3 3 (0 ∷ 2 ∷ 2 ∷ 1 ∷ [])
    ∷ there-by (triple 6) 3 4 4 (0 ∷ 2 ∷ 2 ∷ 2 ∷ [])
    ∷ there-by (triple 6) 3 0 3 (0 ∷ 1 ∷ 0 ∷ 0 ∷ [])
    ∷ there-by (triple 6) 2 4 3 (0 ∷ 2 ∷ 2 ∷ 1 ∷ [])
    ∷ there-by (triple 6) 2 3 3 (0 ∷ 2 ∷ 1 ∷ 0 ∷ [])
    -- an xor in an xor, and an and in it: the outer picks by place, not by number
    ∷ there-by choices 0 3 3 (1 ∷ 0 ∷ 0 ∷ 1 ∷ 1 ∷ 1 ∷ 2 ∷ 2 ∷ [])
    ∷ there-by choices 0 4 4 (0 ∷ 0 ∷ 0 ∷ 2 ∷ 1 ∷ 2 ∷ 2 ∷ 2 ∷ [])
    ∷ there-by choices 1 5 3 (2 ∷ 0 ∷ 1 ∷ 1 ∷ 1 ∷ 1 ∷ 1 ∷ 1 ∷ [])
    ∷ there-by choices 2 5 3 (1 ∷ 0 ∷ 1 ∷ 1 ∷ 1 ∷ 1 ∷ 1 ∷ 1 ∷ [])
    ∷ there-by choices 2 3 3 (2 ∷ 0 ∷ 1 ∷ 1 ∷ 1 ∷ 1 ∷ 1 ∷ 1 ∷ [])
    ∷ there-by choices 3 3 3 (3 ∷ 0 ∷ 0 ∷ 1 ∷ 1 ∷ 1 ∷ 2 ∷ 2 ∷ [])
    ∷ there-by choices 5 3 4 (0 ∷ 0 ∷ 0 ∷ 2 ∷ 2 ∷ 1 ∷ 2 ∷ 2 ∷ [])
    ∷ there-by choices 5 4 3 (2 ∷ 0 ∷ 1 ∷ 1 ∷ 1 ∷ 2 ∷ 1 ∷ 1 ∷ [])
    ∷ there-by choices 6 5 3 (1 ∷ 0 ∷ 2 ∷ 1 ∷ 1 ∷ 1 ∷ 1 ∷ 1 ∷ [])
    ∷ there-by choices 7 3 3 (1 ∷ 0 ∷ 2 ∷ 1 ∷ 1 ∷ 1 ∷ 1 ∷ 1 ∷ [])
    ∷ there-by choices 7 5 3 (1 ∷ 0 ∷ 1 ∷ 1 ∷ 1 ∷ 1 ∷ 1 ∷ 1 ∷ [])
    -- a conditional over a contingency, then an or
    ∷ there-by branches 0 3 3 (0 ∷ 1 ∷ 0 ∷ 0 ∷ 1 ∷ 0 ∷ 0 ∷ 0 ∷ 1 ∷ 1 ∷ [])
    ∷ there-by branches 0 4 4 (0 ∷ 1 ∷ 0 ∷ 0 ∷ 1 ∷ 0 ∷ 0 ∷ 0 ∷ 2 ∷ 2 ∷ [])
    ∷ there-by branches 2 0 3 (0 ∷ 2 ∷ 0 ∷ 1 ∷ 0 ∷ 0 ∷ 0 ∷ 0 ∷ 1 ∷ 1 ∷ [])
    ∷ there-by branches 3 3 3 (0 ∷ 2 ∷ 0 ∷ 1 ∷ 0 ∷ 0 ∷ 0 ∷ 0 ∷ 1 ∷ 1 ∷ [])
    ∷ there-by branches 3 4 4 (0 ∷ 2 ∷ 0 ∷ 2 ∷ 0 ∷ 0 ∷ 0 ∷ 0 ∷ 0 ∷ 0 ∷ [])
    ∷ there-by branches 3 0 3 (0 ∷ 1 ∷ 0 ∷ 0 ∷ 1 ∷ 0 ∷ 0 ∷ 0 ∷ 1 ∷ 1 ∷ [])
    ∷ there-by branches 6 3 3 (0 ∷ 1 ∷ 0 ∷ 0 ∷ 2 ∷ 2 ∷ 1 ∷ 0 ∷ 1 ∷ 1 ∷ [])
    ∷ there-by branches 6 3 4 (0 ∷ 1 ∷ 0 ∷ 0 ∷ 2 ∷ 2 ∷ 1 ∷ 0 ∷ 2 ∷ 2 ∷ [])
    ∷ there-by branches 6 4 4 (0 ∷ 1 ∷ 0 ∷ 0 ∷ 2 ∷ 2 ∷ 2 ∷ 0 ∷ 0 ∷ 0 ∷ [])
    ∷ there-by branches 6 0 3 (0 ∷ 1 ∷ 0 ∷ 0 ∷ 1 ∷ 0 ∷ 0 ∷ 0 ∷ 1 ∷ 1 ∷ [])
    ∷ there-by branches 8 0 4 (0 ∷ 1 ∷ 0 ∷ 0 ∷ 2 ∷ 2 ∷ 2 ∷ 0 ∷ 0 ∷ 0 ∷ [])
    ∷ there-by branches 8 4 3 (0 ∷ 1 ∷ 0 ∷ 0 ∷ 1 ∷ 0 ∷ 0 ∷ 0 ∷ 2 ∷ 1 ∷ [])
    ∷ there-by branches 9 4 3 (0 ∷ 1 ∷ 0 ∷ 0 ∷ 1 ∷ 0 ∷ 0 ∷ 0 ∷ 1 ∷ 2 ∷ [])
    -- a waiting and over an xor and an and; below a serial that is turned down a task has committed
    ∷ there-by waits 0 3 3 (0 ∷ 1 ∷ 0 ∷ 1 ∷ 0 ∷ 0 ∷ 1 ∷ 1 ∷ 1 ∷ 1 ∷ [])
    ∷ there-by waits 0 4 4 (0 ∷ 0 ∷ 0 ∷ 2 ∷ 0 ∷ 0 ∷ 1 ∷ 1 ∷ 1 ∷ 2 ∷ [])
    ∷ there-by waits 1 3 4 (0 ∷ 1 ∷ 0 ∷ 1 ∷ 0 ∷ 0 ∷ 1 ∷ 2 ∷ 1 ∷ 1 ∷ [])
    ∷ there-by waits 2 5 3 (0 ∷ 2 ∷ 0 ∷ 1 ∷ 0 ∷ 0 ∷ 1 ∷ 1 ∷ 1 ∷ 1 ∷ [])
    ∷ there-by waits 2 5 4 (0 ∷ 2 ∷ 0 ∷ 1 ∷ 0 ∷ 0 ∷ 1 ∷ 2 ∷ 1 ∷ 1 ∷ [])
    ∷ there-by waits 3 5 3 (0 ∷ 1 ∷ 0 ∷ 1 ∷ 0 ∷ 0 ∷ 1 ∷ 1 ∷ 1 ∷ 1 ∷ [])
    ∷ there-by waits 5 3 4 (0 ∷ 0 ∷ 0 ∷ 2 ∷ 0 ∷ 0 ∷ 1 ∷ 1 ∷ 1 ∷ 2 ∷ [])
    ∷ there-by waits 5 4 4 (0 ∷ 0 ∷ 0 ∷ 2 ∷ 0 ∷ 0 ∷ 2 ∷ 1 ∷ 1 ∷ 2 ∷ [])
    ∷ there-by waits 4 4 4 (0 ∷ 0 ∷ 0 ∷ 2 ∷ 0 ∷ 0 ∷ 1 ∷ 2 ∷ 1 ∷ 2 ∷ [])
    ∷ there-by waits 9 0 3 (0 ∷ 2 ∷ 0 ∷ 1 ∷ 0 ∷ 0 ∷ 1 ∷ 1 ∷ 2 ∷ 0 ∷ [])
    ∷ there-by waits 9 0 4 (0 ∷ 0 ∷ 0 ∷ 2 ∷ 0 ∷ 0 ∷ 1 ∷ 1 ∷ 2 ∷ 0 ∷ [])
    ∷ there-by waits 9 4 3 (0 ∷ 2 ∷ 0 ∷ 1 ∷ 0 ∷ 0 ∷ 1 ∷ 1 ∷ 1 ∷ 2 ∷ [])
    -- a contingency over an and, a conditional and a task: what comes later is not reached while something before it can work
    ∷ there-by tries 0 3 3 (0 ∷ 0 ∷ 0 ∷ 0 ∷ 1 ∷ 1 ∷ 0 ∷ 0 ∷ [])
    ∷ there-by tries 0 4 4 (0 ∷ 0 ∷ 1 ∷ 2 ∷ 1 ∷ 2 ∷ 2 ∷ 0 ∷ [])
    ∷ there-by tries 2 3 3 (0 ∷ 0 ∷ 1 ∷ 0 ∷ 1 ∷ 2 ∷ 1 ∷ 0 ∷ [])
    ∷ there-by tries 3 3 3 (0 ∷ 0 ∷ 1 ∷ 1 ∷ 1 ∷ 2 ∷ 2 ∷ 0 ∷ [])
    ∷ there-by tries 5 3 4 (0 ∷ 0 ∷ 1 ∷ 2 ∷ 2 ∷ 1 ∷ 2 ∷ 0 ∷ [])
    ∷ there-by tries 5 4 3 (0 ∷ 0 ∷ 1 ∷ 0 ∷ 1 ∷ 2 ∷ 1 ∷ 0 ∷ [])
    ∷ there-by tries 6 0 4 (0 ∷ 0 ∷ 2 ∷ 2 ∷ 1 ∷ 2 ∷ 0 ∷ 2 ∷ [])
    ∷ there-by tries 7 4 3 (0 ∷ 0 ∷ 2 ∷ 1 ∷ 1 ∷ 2 ∷ 0 ∷ 2 ∷ [])
    ∷ there-by tries 7 0 3 (0 ∷ 0 ∷ 0 ∷ 0 ∷ 1 ∷ 1 ∷ 0 ∷ 0 ∷ [])
    -- an xor of twelve tasks: the last is picked, or the last is turned down
    ∷ there-by (5 ∷ 255 ∷ tasks 12) 12 3 3 (12 ∷ 1 ∷ 1 ∷ 1 ∷ 1 ∷ 1 ∷ 1 ∷ 1 ∷ 1 ∷ 1 ∷ 1 ∷ 1 ∷ 1 ∷ [])
    ∷ there-by (5 ∷ 255 ∷ tasks 12) 12 5 3 (1 ∷ 1 ∷ 1 ∷ 1 ∷ 1 ∷ 1 ∷ 1 ∷ 1 ∷ 1 ∷ 1 ∷ 1 ∷ 1 ∷ 1 ∷ [])
    ∷ there-by (5 ∷ 255 ∷ tasks 12) 1 5 3 (2 ∷ 1 ∷ 1 ∷ 1 ∷ 1 ∷ 1 ∷ 1 ∷ 1 ∷ 1 ∷ 1 ∷ 1 ∷ 1 ∷ 1 ∷ [])
    ∷ []

pub no_ways : List Case
no_ways =
    -- the root: its mark is the end, it is reached, and it is no child of an xor
    closed P 0 3 4
    ∷ closed P 0 4 3
    ∷ closed P 0 0 3
    ∷ closed P 0 0 4
    ∷ closed P 0 5 3
    ∷ closed choices 0 5 3
    -- a serial fails with any of its children, and one that works has reached them all; its first is always reached
    ∷ closed P 1 4 3
    ∷ closed P 2 4 3
    ∷ closed P 5 4 3
    ∷ closed P 2 0 3
    ∷ closed P 4 0 3
    ∷ closed P 5 0 3
    ∷ closed P 1 0 4
    ∷ closed P 5 3 4
    -- turned down are children of an xor alone, and only where another one is picked
    ∷ closed P 1 5 3
    ∷ closed P 2 5 4
    ∷ closed (lone 5) 1 5 3
    ∷ closed (pair 5) 1 5 4
    ∷ closed waits 8 5 3
    -- an xor settles all, and fails with all
    ∷ closed (pair 5) 1 0 3
    ∷ closed (pair 5) 2 0 4
    ∷ closed (pair 5) 1 3 4
    ∷ closed choices 2 0 3
    ∷ closed choices 7 5 4
    ∷ closed choices 4 0 4
    -- an and and a waiting and
    ∷ closed (pair 3) 1 4 3
    ∷ closed (pair 3) 1 0 4
    ∷ closed (pair 8) 2 4 3
    ∷ closed (pair 8) 2 0 4
    ∷ closed waits 4 4 3
    ∷ closed waits 6 4 3
    ∷ closed waits 7 0 4
    -- an or
    ∷ closed (pair 4) 1 3 4
    ∷ closed (pair 4) 1 0 3
    ∷ closed (lone 4) 1 4 3
    ∷ closed branches 8 3 4
    -- a contingency fails with all, and its last child settles it
    ∷ closed (triple 6) 1 0 3
    ∷ closed (triple 6) 3 0 4
    ∷ closed (triple 6) 3 4 3
    ∷ closed (triple 6) 2 3 4
    ∷ closed tries 3 0 4
    -- a conditional ends as the branch that is answered for
    ∷ closed (pair 7) 0 0 4
    ∷ closed (pair 7) 1 3 4
    ∷ closed (pair 7) 2 4 3
    ∷ closed branches 3 4 3
    ∷ closed branches 6 4 3
    ∷ []

-- Q2: a front of answers that goes on to the target, or not
pub record Front : Type 0 where
  pub plan : List ℕ
  pub node : ℕ
  pub mark : ℕ
  pub end : ℕ
  pub answers : List ℕ
  pub fixed : ℕ
  pub goes_on : Bool

front : List ℕ → ℕ → ℕ → ℕ → List ℕ → ℕ → Bool → Front
front p v m e a i b = record { plan = p; node = v; mark = m; end = e; answers = a; fixed = i; goes_on = b }

-- any byte where the answer is not read; 1 or 2 at a task, and neither 0 nor 3; none where the one before it settles all
pub fronts : List Front
fronts =
    front P 0 3 3 (9 ∷ 9 ∷ 9 ∷ 9 ∷ 9 ∷ 9 ∷ []) 0 true
    ∷ front P 0 3 3 (9 ∷ 9 ∷ 9 ∷ 9 ∷ 9 ∷ 9 ∷ []) 1 true
    ∷ front P 0 3 3 (9 ∷ 9 ∷ 9 ∷ 9 ∷ 9 ∷ 9 ∷ []) 2 false
    ∷ front P 0 3 3 (9 ∷ 1 ∷ 9 ∷ 9 ∷ 9 ∷ 9 ∷ []) 2 true
    ∷ front P 0 3 3 (9 ∷ 1 ∷ 0 ∷ 9 ∷ 9 ∷ 9 ∷ []) 3 false
    ∷ front P 0 3 3 (9 ∷ 1 ∷ 2 ∷ 9 ∷ 9 ∷ 9 ∷ []) 3 true
    ∷ front P 0 3 3 (9 ∷ 1 ∷ 3 ∷ 9 ∷ 9 ∷ 9 ∷ []) 3 false
    ∷ front P 0 3 3 (9 ∷ 1 ∷ 2 ∷ 2 ∷ 9 ∷ 9 ∷ []) 4 true
    ∷ front P 0 3 3 (9 ∷ 1 ∷ 2 ∷ 2 ∷ 2 ∷ 9 ∷ []) 5 false
    ∷ front P 0 3 3 (9 ∷ 1 ∷ 2 ∷ 2 ∷ 1 ∷ 1 ∷ []) 6 true
    ∷ front P 0 3 3 (9 ∷ 1 ∷ 2 ∷ 2 ∷ 1 ∷ 2 ∷ []) 6 false
    ∷ front P 3 5 3 (0 ∷ 1 ∷ 1 ∷ 9 ∷ 9 ∷ 9 ∷ []) 3 false
    ∷ front P 3 4 4 (0 ∷ 2 ∷ 9 ∷ 9 ∷ 9 ∷ 9 ∷ []) 2 false
    ∷ front P 3 0 4 (0 ∷ 2 ∷ 9 ∷ 9 ∷ 9 ∷ 9 ∷ []) 6 true
    ∷ front (pair 7) 1 0 3 (9 ∷ 9 ∷ 9 ∷ []) 0 true
    ∷ front (pair 7) 1 0 3 (1 ∷ 9 ∷ 9 ∷ []) 1 false
    ∷ front (pair 7) 1 0 3 (2 ∷ 9 ∷ 9 ∷ []) 2 true
    ∷ front (pair 7) 1 0 3 (2 ∷ 9 ∷ 2 ∷ []) 3 false
    ∷ front (triple 6) 0 3 3 (0 ∷ 1 ∷ 9 ∷ 9 ∷ []) 4 true
    ∷ front (triple 6) 3 3 3 (0 ∷ 1 ∷ 9 ∷ 9 ∷ []) 2 false
    ∷ front (triple 6) 0 4 4 (0 ∷ 2 ∷ 2 ∷ 9 ∷ []) 3 true
    ∷ front (triple 6) 0 4 4 (0 ∷ 2 ∷ 2 ∷ 0 ∷ []) 4 false
    ∷ []

-- TESTS. The call looks for a way
unfoldable pub looks : List ℕ → ℕ → ℕ → ℕ → List ℕ → Bool
looks p v m e a = (eqb (fit_number p (eqb (length a) (size p))) 0 && ltb v (size p)) && can_want m e

-- the front of l up to i stays open with l's byte at i, and with no smaller one
unfoldable pub turn_by : List ℕ → ℕ → ℕ → ℕ → List ℕ → ℕ → Bool
turn_by p w m e l i = (ltb (get_or l i 0) 256 && open_at p w m e l (i + 1)) && all_below (λ c. not (open_at p w m e (set l i c) (i + 1))) (get_or l i 0)

-- l is the smallest list
unfoldable pub least_by : List ℕ → ℕ → ℕ → ℕ → List ℕ → Bool
least_by p w m e l = (eqb (length l) (size p) && open_at p w m e l 0) && all_below (turn_by p w m e l) (size p)

-- 0 with the smallest list, or 30 where no front is open
unfoldable pub is_right : Case → Bool
is_right k = looks k.plan k.node k.mark k.end k.lent && cond (eqb k.number 0) (least_by k.plan k.node k.mark k.end k.found)
    (eqb k.number 30 && not (open_at k.plan k.node k.mark k.end k.lent 0))

module _ {p : List ℕ} {w m e : ℕ} (q : Asked p w m e) (l : List ℕ) (h : least_by p w m e l ≡ true) where
  long : length l ≡ size p
  unfolding least_by
  long = eqb-true _ _ (and_left _ _ (and_left _ _ h))

  chosen-to : (i : ℕ) → i ≤ size p → Chosen q l i
  unfolding least_by turn_by
  chosen-to zero s = chosen_none q l long (and_right (eqb (length l) (size p)) _ (and_left _ _ h))
  chosen-to (suc i) s =
      let t = below_at (turn_by p w m e l) (size p) i (and_right (eqb (length l) (size p) && open_at p w m e l 0) _ h) s in
      let byte = and_left (ltb (get_or l i 0) 256 && open_at p w m e l (i + 1)) _ t in
      let before = below_at (λ c. not (open_at p w m e (set l i c) (i + 1))) (get_or l i 0) in
      let smaller = and_right (ltb (get_or l i 0) 256 && open_at p w m e l (i + 1)) _ t in
      rw (← add-one i) (subst (λ a. Chosen q a (i + 1)) (set-get_or l i 0)
      (chosen-turn q l i (chosen-to i (omega arith)) s (get_or l i 0) (ltb-true _ _ (and_left _ _ byte)) (λ c k. not-true _ (before c smaller k))
      (rw (set-get_or l i 0) (and_right (ltb (get_or l i 0) 256) _ byte))))

  least-way : way p w m e ≡ some l
  least-way = chosen-all q l (size p) (chosen-to (size p) (omega arith)) (omega arith)

module _ (p : List ℕ) (v m e : ℕ) (a : List ℕ) (h : looks p v m e a ≡ true) where
  wanted : can_want m e ≡ true
  unfolding looks
  wanted = and_right (eqb (fit_number p (eqb (length a) (size p))) 0 && ltb v (size p)) _ h

  fitting : Accepted p × (length a ≡ size p)
  unfolding looks
  fitting = fit-told p v m e a (eqb-true _ _ (and_left _ _ (and_left _ _ h)))

  within : v < size p
  unfolding looks
  within = ltb-true _ _ (and_right (eqb (fit_number p (eqb (length a) (size p))) 0) _ (and_left _ _ h))

  asked : Asked p v m e
  asked = record { accepted = fitting.0; within = within; three = (target_told p v m e wanted within).end }

  looked : way_into p v m e a ≡ found_into (way p v m e) a
  looked = into-found p v m e a fitting.0 fitting.1 within wanted

right : (k : Case) → is_right k ≡ true → called k ≡ expected k
unfolding is_right
right k h =
    let p = k.plan in
    let c = and_left (looks p k.node k.mark k.end k.lent) _ h in
    looked p k.node k.mark k.end k.lent c ∙ go (asked p k.node k.mark k.end k.lent c) (fitting p k.node k.mark k.end k.lent c).1
    (eqb k.number 0) refl (and_right (looks p k.node k.mark k.end k.lent) _ h)
  where
    go : Asked k.plan k.node k.mark k.end → length k.lent ≡ size k.plan → (b : Bool) → eqb k.number 0 ≡ b →
        cond b (least_by k.plan k.node k.mark k.end k.found) (eqb k.number 30 && not (open_at k.plan k.node k.mark k.end k.lent 0)) ≡ true →
        found_into (way k.plan k.node k.mark k.end) k.lent ≡ way_result k.number (cond b k.found k.lent)
    go q y true e t = unfold found_into in rw (least-way q k.found t, eqb-true k.number 0 e)
    go q y false e t = unfold found_into in rw (way-empty q k.lent y (not-true _ (and_right (eqb k.number 30) _ t)), eqb-true k.number 30 (and_left _ _ t))

all_right : (ks : List Case) → all is_right ks ≡ true → map called ks ≡ map expected ks
unfolding all
all_right [] h = refl
all_right (k ∷ ks) h = ap₂ ◌∷◌ (right k (and_left _ _ h)) (all_right ks (and_right (is_right k) _ h))

-- THE ROWS
pub all-refusals : map called refusals ≡ map expected refusals
unfolding way_into can_want fit_number check_number length_ok at_all kind_ok parent_ok under_block fits count_ok depth_ok kind_of size kind_byte kind parent children_below children child_count depth_within depth keep up_from all_below refusals refused chain
all-refusals = refl

pub all-tried : map called tried ≡ map expected tried
unfolding way_into found_into way smallest first_below or_else behind leads can_want pass_mark pass pass_of number_of root_mark settle settle_by settle_if close walk meet meet_by child_settled unwalked nothing end_of ending note skip child_mark good_mark closes bad_pick bad_answer one_or_two goes goes_by fit_number check_number length_ok at_all kind_ok parent_ok under_block fits count_ok depth_ok kind_number is_kind kind_of size kind_byte kind parent children_below children child_count depth_within depth keep up_from all_below tried there-by closed refused
all-tried = refl

pub all-fronts : map (λ k. open_at k.plan k.node k.mark k.end k.answers k.fixed) fronts ≡ map (λ k. k.goes_on) fronts
unfolding open_at can_at can_within can_by works_by breaks_by stops fits_of allows_of kind_of size kind_byte kind parent children_below children all keep up_from fronts front
all-fronts = refl

ways-right : all is_right ways ≡ true
unfolding is_right looks least_by turn_by open_at can_at can_within can_by works_by breaks_by stops fits_of allows_of can_want fit_number check_number length_ok at_all kind_ok parent_ok under_block fits count_ok depth_ok kind_of size kind_byte kind parent children_below children child_count depth_within depth all keep up_from all_below ways there-by tasks
ways-right = refl

pub all_ways : map called ways ≡ map expected ways
all_ways = all_right ways ways-right

none_right : all is_right no_ways ≡ true
unfolding is_right looks open_at can_at can_within can_by works_by breaks_by stops fits_of allows_of can_want fit_number check_number length_ok at_all kind_ok parent_ok under_block fits count_ok depth_ok kind_of size kind_byte kind parent children_below children child_count depth_within depth all keep up_from all_below no_ways closed refused
none_right = refl

pub all_none : map called no_ways ≡ map expected no_ways
all_none = all_right no_ways none_right

-- Q3: smaller, and not smaller
abbrev pub Smaller : Type 0
Smaller =
    Less (1 ∷ []) (2 ∷ [])
    × Less (0 ∷ 255 ∷ []) (1 ∷ 0 ∷ [])
    × Less (0 ∷ 1 ∷ 2 ∷ []) (0 ∷ 2 ∷ 1 ∷ [])
    × Less (0 ∷ 1 ∷ 0 ∷ 2 ∷ 2 ∷ 0 ∷ []) (0 ∷ 1 ∷ 1 ∷ 1 ∷ 1 ∷ 1 ∷ [])
    × Less (0 ∷ 1 ∷ 1 ∷ 1 ∷ 1 ∷ 1 ∷ []) (0 ∷ 1 ∷ 1 ∷ 1 ∷ 1 ∷ 2 ∷ [])

at_once : {b c : ℕ} {l m : List ℕ} → ltb b c ≡ true → Less (b ∷ l) (c ∷ m)
at_once {b} {c} h = here (ltb-true b c h)

pub smaller : Smaller
smaller = (at_once refl, at_once refl, there refl (at_once refl), there refl (there refl (at_once refl)), there refl (there refl (there refl (there refl (there refl (at_once refl))))))

abbrev pub NotSmaller : Type 0
NotSmaller =
    (Less [] [] → ⊥)
    × (Less (1 ∷ []) (1 ∷ []) → ⊥)
    × (Less (2 ∷ []) (1 ∷ []) → ⊥)
    × (Less (1 ∷ 0 ∷ []) (0 ∷ 255 ∷ []) → ⊥)
    × (Less (0 ∷ 2 ∷ 1 ∷ []) (0 ∷ 1 ∷ 2 ∷ []) → ⊥)
    × (Less (0 ∷ 1 ∷ 1 ∷ 1 ∷ 1 ∷ 1 ∷ []) (0 ∷ 1 ∷ 0 ∷ 2 ∷ 2 ∷ 0 ∷ []) → ⊥)
    × (Less (0 ∷ 1 ∷ 1 ∷ []) (0 ∷ 1 ∷ 1 ∷ []) → ⊥)

pub not-smaller : NotSmaller
not-smaller = (λ h. less-apart h h, λ h. less-apart h h, less-apart smaller.0, less-apart smaller.1, less-apart smaller.2, less-apart smaller.3, λ h. less-apart h h)
