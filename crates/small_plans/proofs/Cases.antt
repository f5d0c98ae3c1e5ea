-- The order of plans, and the call by what comes next (rules T2, T6, T7), worked out by hand from the rules. The next plan itself is worked out
-- in the crate next_plan, by its candidates. Assumes nothing.
use mathlib.Core.Path.{◌≡◌, refl}
use mathlib.Core.Bool.{Bool, true, false}
use mathlib.Core.List.{List, [], ◌∷◌, map}
use mathlib.Core.Option.{Option, none, some}
use Prim.Native.Nat.{ℕ, zero, suc}
use Rattle.lists.specs.Seq.{keep, up_from, all_below}
use Rattle.plan.specs.Plan.{kind_of, size, kind_byte, kind, parent, children_below, children, child_count, depth_within, depth}
use Rattle.plan.specs.Check.{length_ok, kind_ok, parent_ok, under_block, fits, count_ok, depth_ok, at_all, check_number}
use Rattle.plan.specs.Made.{Made, made, in_front}
use Rattle.small_plans.specs.Order.{is_less, is_before, next_plan}
use Rattle.small_plans.specs.Call.{given, next_of}

abbrev single : List ℕ
single = 1 ∷ 255 ∷ []

-- kind k with one task, and with two
abbrev one : ℕ → List ℕ
one k = k ∷ 255 ∷ 1 ∷ 0 ∷ []

abbrev two : ℕ → List ℕ
two k = k ∷ 255 ∷ 1 ∷ 0 ∷ 1 ∷ 0 ∷ []

-- serial of serial of a task, and one more task below node u, both numbered from x on
abbrev low : ℕ → ℕ → List ℕ
low x u = 2 ∷ 255 ∷ 2 ∷ 0 ∷ 1 ∷ x ∷ 1 ∷ u ∷ []

-- T2: whether the first comes before the second
record Pair : Type 0 where
  first : List ℕ
  second : List ℕ
  before : Bool

pair : List ℕ → List ℕ → Bool → Pair
pair p q b = record { first = p; second = q; before = b }

pairs : List Pair
pairs =
    pair single (one 2) true
    ∷ pair (one 2) single false
    ∷ pair single single false
    ∷ pair (one 2) (one 3) true
    ∷ pair (one 3) (one 2) false
    ∷ pair (one 2) (one 2) false
    ∷ pair (one 8) (two 2) true
    ∷ pair (two 2) (one 8) false
    ∷ pair (low 0 1) (low 1 0) true
    ∷ pair (low 1 0) (low 0 1) false
    ∷ pair (low 1 0) (low 1 1) true
    ∷ pair (low 1 1) (low 1 0) false
    ∷ pair (low 1 1) (low 1 1) false
    ∷ pair (2 ∷ 255 ∷ 8 ∷ 0 ∷ 1 ∷ 1 ∷ []) (two 3) true
    ∷ pair (two 3) (2 ∷ 255 ∷ 8 ∷ 0 ∷ 1 ∷ 1 ∷ []) false
    ∷ []

all-ordered : map (λ (k : Pair). is_before k.first k.second) pairs ≡ map (λ (k : Pair). k.before) pairs
unfolding pairs pair is_before is_less size
all-ordered = refl

-- n bytes lent
lent : ℕ → List ℕ
lent zero = []
lent (suc n) = 238 ∷ lent n

-- T6, T7: a small plan's call, by the next plan
record Given : Type 0 where
  next : Option (List ℕ)
  bytes : ℕ
  comes : Made

given-as : Option (List ℕ) → ℕ → Made → Given
given-as o n a = record { next = o; bytes = n; comes = a }

abbrev five : List ℕ
five = 8 ∷ 255 ∷ 8 ∷ 0 ∷ 8 ∷ 1 ∷ 8 ∷ 2 ∷ 1 ∷ 3 ∷ []

gifts : List Given
gifts =
    given-as none 10 (made 26 0 (lent 10))
    ∷ given-as none 9 (made 26 0 (lent 9))
    ∷ given-as (some (one 2)) 9 (made 7 0 (lent 9))
    ∷ given-as (some (one 2)) 11 (made 7 0 (lent 11))
    ∷ given-as (some (one 2)) 0 (made 7 0 [])
    ∷ given-as (some (one 2)) 4 (made 7 0 (lent 4))
    ∷ given-as (some (one 2)) 10 (made 0 2 (2 ∷ 255 ∷ 1 ∷ 0 ∷ 238 ∷ 238 ∷ 238 ∷ 238 ∷ 238 ∷ 238 ∷ []))
    ∷ given-as (some (two 7)) 10 (made 0 3 (7 ∷ 255 ∷ 1 ∷ 0 ∷ 1 ∷ 0 ∷ 238 ∷ 238 ∷ 238 ∷ 238 ∷ []))
    ∷ given-as (some five) 10 (made 0 5 five)
    ∷ given-as (some five) 12 (made 7 0 (lent 12))
    ∷ []

all-given : map (λ (k : Given). given k.next (lent k.bytes)) gifts ≡ map (λ (k : Given). k.comes) gifts
unfolding gifts given-as given in_front size lent
all-given = refl

-- T6: 1 to 6 and 27 come before all else
record Refused : Type 0 where
  plan : List ℕ
  number : ℕ

refused : List ℕ → ℕ → Refused
refused p k = record { plan = p; number = k }

tasks : ℕ → List ℕ
tasks zero = []
tasks (suc n) = 1 ∷ 0 ∷ tasks n

-- serials in a chain, from node v on, and a task at its end
chain : ℕ → ℕ → List ℕ
chain zero v = 1 ∷ v ∷ []
chain (suc n) v = 2 ∷ v ∷ chain n (suc v)

refusals : List Refused
refusals =
    refused [] 1
    ∷ refused (1 ∷ 255 ∷ 1 ∷ []) 1
    ∷ refused (9 ∷ 255 ∷ 1 ∷ 0 ∷ []) 2
    ∷ refused (2 ∷ 0 ∷ 1 ∷ 0 ∷ []) 3
    ∷ refused (2 ∷ 255 ∷ 1 ∷ 0 ∷ 1 ∷ 1 ∷ []) 4
    ∷ refused (2 ∷ 255 ∷ []) 5
    ∷ refused (7 ∷ 255 ∷ tasks 3) 5
    ∷ refused (8 ∷ 255 ∷ 8 ∷ 0 ∷ 8 ∷ 1 ∷ 8 ∷ 2 ∷ 8 ∷ 3 ∷ []) 5
    ∷ refused (2 ∷ 255 ∷ chain 31 0) 6
    ∷ refused (2 ∷ 255 ∷ tasks 5) 27
    ∷ refused (2 ∷ 255 ∷ chain 30 0) 27
    ∷ refused (2 ∷ 255 ∷ tasks 32) 27
    ∷ []

all-refused : map (λ (k : Refused). next_of k.plan (lent 9)) refusals ≡ map (λ (k : Refused). made k.number 0 (lent 9)) refusals
unfolding refusals refused tasks chain lent next_of check_number length_ok at_all kind_ok parent_ok under_block fits count_ok depth_ok kind_of size kind_byte kind parent children_below children child_count depth_within depth keep up_from all_below
all-refused = refl

-- T6: one to five nodes are small: what comes of the call is what comes of the next plan
smalls : List (List ℕ)
smalls = single ∷ one 2 ∷ two 7 ∷ low 1 0 ∷ five ∷ (2 ∷ 255 ∷ tasks 4) ∷ []

all_small : map (λ p. next_of p (lent 9)) smalls ≡ map (λ p. given (next_plan p) (lent 9)) smalls
unfolding smalls tasks next_of check_number length_ok at_all kind_ok parent_ok under_block fits count_ok depth_ok kind_of size kind_byte kind parent children_below children child_count depth_within depth keep up_from all_below
all_small = refl
