-- The next plan of small plans (rule T3), worked out by hand from the rules and found among the candidates; and the ranges and fronts of the
-- search. Assumes nothing.
use mathlib.Core.Path.{◌≡◌, refl, ◌∙◌, ap}
use mathlib.Core.Bool.{Bool, true, false, cond}
use mathlib.Core.List.{List, [], ◌∷◌, map}
use mathlib.Core.Option.{Option, none, some, some-injective, none-ne-some}
use Prim.Native.Nat.{ℕ, zero, suc}
use lib.Dec.{eqb, leb}
use lib.ListN.{length, drop}
use borrow.Author.Tests.{eqb-true, eqb-false, leb-true, leb-false}
use Rattle.lists.specs.Seq.{keep, up_from, all_below, sum_below, head_or}
use Rattle.lists.specs.Smallest.{behind, or_else}
use Rattle.plan.specs.Plan.{kind_of, size, kind_byte, kind, parent, children_below, children, child_count, depth_within, depth}
use Rattle.plan.specs.Check.{length_ok, kind_ok, parent_ok, under_block, fits, count_ok, depth_ok, at_all, check_number, Accepted}
use Rattle.plan.proofs.Main.{check-exact}
use Rattle.small_plans.specs.Order.{Before, next_plan}
use Rattle.small_plans.specs.Claim.{last}
use Rattle.small_plans.proofs.AllLaws.{before-trans}
use Rattle.next_plan.specs.Candidates.{lowest, highest, Candidate, lows, advance, or_lows, following}
use Rattle.next_plan.specs.Search.{children_needed, needed_below, Gap}
use Rattle.next_plan.proofs.CandidateLaws.{accepted-candidate}
use Rattle.next_plan.proofs.FollowLaws.{follows, gap-first, gap-on, gap-found, gap-over}
use Rattle.next_plan.proofs.DeadLaws.{dead-all}

-- up to f candidates from q on: the first that is accepted, or none; nothing, if these are not enough
tried : ℕ → List ℕ → Option (Option (List ℕ))
tried zero q = none
tried (suc f) q = cond (leb (length q) 10) (cond (eqb (check_number q) 0) (some (some q)) (tried f (following (length q) q))) (some none)

-- what they find is the next plan
module _ (p : List ℕ) where
  tried-right : (f : ℕ) (q : List ℕ) → Candidate q → Gap p q → Before p q → (r : Option (List ℕ)) → tried f q ≡ some r → next_plan p ≡ r
  unfolding tried
  tried-right zero q c g b r e = absurd (none-ne-some r e)
  tried-right (suc f) q c g b r e = go (leb (length q) 10) refl (eqb (check_number q) 0) refl e
      (λ n h. let x = follows (length q) q c in tried-right f (following (length q) q) x.candidate (gap-on (length q) p q c g (dead-all q n)) (before-trans b x.after) r h)
    where
      go : (s : Bool) → leb (length q) 10 ≡ s → (t : Bool) → eqb (check_number q) 0 ≡ t → cond s (cond t (some (some q)) (tried f (following (length q) q))) (some none) ≡ some r →
          ((Accepted q → ⊥) → tried f (following (length q) q) ≡ some r → next_plan p ≡ r) → next_plan p ≡ r
      go true l true z h again = gap-found p q g b ((check-exact q).0 (eqb-true (check_number q) 0 z)) (leb-true (length q) 10 l) ∙ some-injective (some q) r h
      go true l false z h again = again (λ ok. eqb-false (check_number q) 0 z ((check-exact q).1 ok)) h
      go false l t z h again = gap-over p q g c (leb-false (length q) 10 l) ∙ some-injective none r h

-- a small plan and its next
record Step : Type 0 where
  plan : List ℕ
  next : Option (List ℕ)

step : List ℕ → Option (List ℕ) → Step
step p o = record { plan = p; next = o }

-- from the plan's own bytes on
trial : Step → Option (Option (List ℕ))
trial k = tried 400 (following (length k.plan) k.plan)

step_right : (k : Step) → trial k ≡ some k.next → check_number k.plan ≡ 0 → next_plan k.plan ≡ k.next
unfolding trial
step_right k e z =
    let ok = (check-exact k.plan).0 z in
    let x = follows (length k.plan) k.plan (accepted-candidate k.plan ok) in
    tried-right k.plan 400 (following (length k.plan) k.plan) x.candidate (gap-first k.plan ok) x.after k.next e

steps : List Step
steps =
    step (1 ∷ 255 ∷ []) (some (2 ∷ 255 ∷ 1 ∷ 0 ∷ []))
    ∷ step (2 ∷ 255 ∷ 1 ∷ 0 ∷ []) (some (3 ∷ 255 ∷ 1 ∷ 0 ∷ []))
    ∷ step (6 ∷ 255 ∷ 1 ∷ 0 ∷ []) (some (8 ∷ 255 ∷ 1 ∷ 0 ∷ []))
    ∷ step (8 ∷ 255 ∷ 1 ∷ 0 ∷ []) (some (2 ∷ 255 ∷ 1 ∷ 0 ∷ 1 ∷ 0 ∷ []))
    ∷ step (2 ∷ 255 ∷ 1 ∷ 0 ∷ 1 ∷ 0 ∷ []) (some (2 ∷ 255 ∷ 2 ∷ 0 ∷ 1 ∷ 1 ∷ []))
    ∷ step (2 ∷ 255 ∷ 6 ∷ 0 ∷ 1 ∷ 1 ∷ []) (some (2 ∷ 255 ∷ 8 ∷ 0 ∷ 1 ∷ 1 ∷ []))
    ∷ step (2 ∷ 255 ∷ 8 ∷ 0 ∷ 1 ∷ 1 ∷ []) (some (3 ∷ 255 ∷ 1 ∷ 0 ∷ 1 ∷ 0 ∷ []))
    ∷ step (6 ∷ 255 ∷ 8 ∷ 0 ∷ 1 ∷ 1 ∷ []) (some (7 ∷ 255 ∷ 1 ∷ 0 ∷ 1 ∷ 0 ∷ []))
    ∷ step (7 ∷ 255 ∷ 1 ∷ 0 ∷ 1 ∷ 0 ∷ []) (some (8 ∷ 255 ∷ 1 ∷ 0 ∷ 1 ∷ 0 ∷ []))
    ∷ step (8 ∷ 255 ∷ 8 ∷ 0 ∷ 1 ∷ 1 ∷ []) (some (2 ∷ 255 ∷ 1 ∷ 0 ∷ 1 ∷ 0 ∷ 1 ∷ 0 ∷ []))
    ∷ step (2 ∷ 255 ∷ 1 ∷ 0 ∷ 1 ∷ 0 ∷ 1 ∷ 0 ∷ []) (some (2 ∷ 255 ∷ 1 ∷ 0 ∷ 2 ∷ 0 ∷ 1 ∷ 2 ∷ []))
    ∷ step (2 ∷ 255 ∷ 1 ∷ 0 ∷ 8 ∷ 0 ∷ 1 ∷ 2 ∷ []) (some (2 ∷ 255 ∷ 2 ∷ 0 ∷ 1 ∷ 0 ∷ 1 ∷ 1 ∷ []))
    ∷ step (2 ∷ 255 ∷ 2 ∷ 0 ∷ 1 ∷ 0 ∷ 1 ∷ 1 ∷ []) (some (2 ∷ 255 ∷ 2 ∷ 0 ∷ 1 ∷ 1 ∷ 1 ∷ 0 ∷ []))
    ∷ step (2 ∷ 255 ∷ 2 ∷ 0 ∷ 1 ∷ 1 ∷ 1 ∷ 0 ∷ []) (some (2 ∷ 255 ∷ 2 ∷ 0 ∷ 1 ∷ 1 ∷ 1 ∷ 1 ∷ []))
    ∷ step (2 ∷ 255 ∷ 2 ∷ 0 ∷ 1 ∷ 1 ∷ 1 ∷ 1 ∷ []) (some (2 ∷ 255 ∷ 2 ∷ 0 ∷ 2 ∷ 1 ∷ 1 ∷ 2 ∷ []))
    ∷ step (2 ∷ 255 ∷ 6 ∷ 0 ∷ 8 ∷ 1 ∷ 1 ∷ 2 ∷ []) (some (2 ∷ 255 ∷ 7 ∷ 0 ∷ 1 ∷ 1 ∷ 1 ∷ 1 ∷ []))
    ∷ step (2 ∷ 255 ∷ 7 ∷ 0 ∷ 1 ∷ 1 ∷ 1 ∷ 1 ∷ []) (some (2 ∷ 255 ∷ 8 ∷ 0 ∷ 1 ∷ 0 ∷ 1 ∷ 1 ∷ []))
    ∷ step (8 ∷ 255 ∷ 8 ∷ 0 ∷ 8 ∷ 1 ∷ 6 ∷ 2 ∷ 1 ∷ 3 ∷ []) (some (8 ∷ 255 ∷ 8 ∷ 0 ∷ 8 ∷ 1 ∷ 8 ∷ 2 ∷ 1 ∷ 3 ∷ []))
    ∷ step last none
    ∷ []

all-tried : map trial steps ≡ map (λ (k : Step). some k.next) steps
unfolding steps step trial tried following or_lows advance lows lowest highest behind or_else check_number length_ok at_all kind_ok parent_ok under_block fits count_ok depth_ok kind_of size kind_byte kind parent children_below children child_count depth_within depth keep up_from all_below
all-tried = refl

all-plans : map (λ (k : Step). check_number k.plan) steps ≡ map (λ (k : Step). 0) steps
unfolding steps step check_number length_ok at_all kind_ok parent_ok under_block fits count_ok depth_ok kind_of size kind_byte kind parent children_below children child_count depth_within depth keep up_from all_below
all-plans = refl

each : (ks : List Step) → map trial ks ≡ map (λ (k : Step). some k.next) ks → map (λ (k : Step). check_number k.plan) ks ≡ map (λ (k : Step). 0) ks →
    map (λ (k : Step). next_plan k.plan) ks ≡ map (λ (k : Step). k.next) ks
unfolding head_or
each [] a b = refl
each (k ∷ ks) a b = rw (step_right k (ap (head_or none) a) (ap (head_or 0) b), each ks (ap (drop 1) a) (ap (drop 1) b)) refl

-- T3: the worked rows
all-next : map (λ (k : Step). next_plan k.plan) steps ≡ map (λ (k : Step). k.next) steps
all-next = each steps all-tried all-plans

-- the ranges in a plan of five nodes, and in one of one
all-ranges : map lowest (up_from 0 10) ∷ map (highest 10) (up_from 0 10) ∷ map (highest 2) (up_from 0 2) ∷ []
    ≡ (1 ∷ 255 ∷ 1 ∷ 0 ∷ 1 ∷ 0 ∷ 1 ∷ 0 ∷ 1 ∷ 0 ∷ []) ∷ (8 ∷ 255 ∷ 8 ∷ 0 ∷ 8 ∷ 1 ∷ 8 ∷ 2 ∷ 1 ∷ 3 ∷ []) ∷ (1 ∷ 255 ∷ []) ∷ []
unfolding lowest highest up_from
all-ranges = refl

-- the next candidate that differs before a place
all-following :
    following 6 (2 ∷ 255 ∷ 1 ∷ 0 ∷ 1 ∷ 0 ∷ [])
    ∷ following 5 (2 ∷ 255 ∷ 1 ∷ 0 ∷ 1 ∷ 0 ∷ [])
    ∷ following 3 (2 ∷ 255 ∷ 1 ∷ 0 ∷ 1 ∷ 0 ∷ [])
    ∷ following 2 (2 ∷ 255 ∷ 1 ∷ 0 ∷ 1 ∷ 0 ∷ [])
    ∷ following 6 (2 ∷ 255 ∷ 2 ∷ 0 ∷ 1 ∷ 1 ∷ [])
    ∷ following 6 (8 ∷ 255 ∷ 8 ∷ 0 ∷ 1 ∷ 1 ∷ [])
    ∷ following 1 (8 ∷ 255 ∷ 1 ∷ 0 ∷ 1 ∷ 0 ∷ [])
    ∷ []
    ≡ (2 ∷ 255 ∷ 1 ∷ 0 ∷ 1 ∷ 1 ∷ [])
    ∷ (2 ∷ 255 ∷ 2 ∷ 0 ∷ 1 ∷ 0 ∷ [])
    ∷ (2 ∷ 255 ∷ 2 ∷ 0 ∷ 1 ∷ 0 ∷ [])
    ∷ (3 ∷ 255 ∷ 1 ∷ 0 ∷ 1 ∷ 0 ∷ [])
    ∷ (2 ∷ 255 ∷ 3 ∷ 0 ∷ 1 ∷ 0 ∷ [])
    ∷ (1 ∷ 255 ∷ 1 ∷ 0 ∷ 1 ∷ 0 ∷ 1 ∷ 0 ∷ [])
    ∷ (1 ∷ 255 ∷ 1 ∷ 0 ∷ 1 ∷ 0 ∷ 1 ∷ 0 ∷ [])
    ∷ []
unfolding following or_lows advance lows lowest highest behind or_else
all-following = refl

-- the children that kinds need, and those of conditional, serial and task together
all-needed : map children_needed (up_from 1 8) ∷ map (needed_below (7 ∷ 255 ∷ 2 ∷ 0 ∷ 1 ∷ 0 ∷ [])) (up_from 0 4) ∷ []
    ≡ (0 ∷ 1 ∷ 1 ∷ 1 ∷ 1 ∷ 1 ∷ 2 ∷ 1 ∷ []) ∷ (0 ∷ 2 ∷ 3 ∷ 3 ∷ []) ∷ []
unfolding children_needed needed_below sum_below kind_byte up_from
all-needed = refl
