-- The search goes from candidate to candidate and leaves no small plan behind. Assumes nothing.
use Rattle.std.proofs.Common.{◌≡◌, sym, ◌∙◌, subst, List, ℕ, ◌-◌, ◌≤◌, ◌<◌, Some, None, arith, length, take}
use lib.Seq.{length-take-le}
use Rattle.lists.proofs.Logic.{cases}
use Rattle.plan.specs.Plan.{size}
use Rattle.plan.specs.Check.{check_number, Accepted}
use Rattle.plan.proofs.Main.{check-exact}
use Rattle.small_plans.specs.Order.{Before}
use Rattle.small_plans.specs.Claim.{Small}
use Rattle.small_plans.proofs.RankLaws.{rank, rank_above, rank-low, rank-before}
use Rattle.small_plans.proofs.AllLaws.{before-trans}
use Rattle.next_plan.specs.Candidates.{Candidate, following}
use Rattle.next_plan.specs.Search.{Dead, Gap, Found}
use Rattle.next_plan.proofs.CandidateLaws.{accepted-candidate, candidate-bytes}
use Rattle.next_plan.proofs.FollowLaws.{Follows, follows, gap-first, gap-on, gap-found, gap-over}

-- the search from p is at a candidate, m bytes of q, and goes on to the next that differs before k
pub record Going (p q : List ℕ) (m k : ℕ) : Type 0 where
  pub long : length q ≡ 12
  low : 0 < m
  few : m ≤ 10
  candidate : Candidate (take m q)
  gap : Gap p (following k (take m q))
  after : Before p (following k (take m q))

-- it has come to a candidate
pub record Sought (p q : List ℕ) (m : ℕ) : Type 0 where
  pub long : length q ≡ 12
  few : m ≤ 12
  candidate : Candidate (take m q)
  gap : Gap p (take m q)
  after : Before p (take m q)

-- it begins with the plan itself
pub going-first : (q : List ℕ) (n : ℕ) → length q ≡ 12 → n ≤ 10 → Small (take n q) → Going (take n q) q n n
going-first q n long few s =
    let front : length (take n q) ≡ n = length-take-le n q (omega arith) in
    let c = accepted-candidate (take n q) s.accepted in
    record {
      long = long;
      low = omega (arith, front, s.accepted.some, s.accepted.even);
      few = few;
      candidate = c;
      gap = subst (λ k. Gap (take n q) (following k (take n q))) front (gap-first (take n q) s.accepted);
      after = (follows n (take n q) c).after;
    }

pub going-ready : {p q : List ℕ} {m k : ℕ} → Going p q m k → (length q ≡ 12) × (0 < m) × (m ≤ 10) × Candidate (take m q)
going-ready h = (h.long, h.low, h.few, h.candidate)

-- one step: r bytes of q' are the candidate that follows
module _ {p q : List ℕ} {m k : ℕ} (h : Going p q m k) (q' : List ℕ) (r : ℕ) (long' : length q' ≡ 12) (few' : r ≤ 12) (e : take r q' ≡ following k (take m q)) where
  next : Follows k (take m q) (following k (take m q))
  next = follows k (take m q) h.candidate

  pub sought : Sought p q' r
  sought = record { long = long'; few = few'; candidate = rw e next.candidate; gap = rw e h.gap; after = rw e h.after }

  pub sought-less : rank_above 12 - rank (take r q') < rank_above 12 - rank (take m q)
  sought-less =
      let c : Candidate (take r q') = rw e next.candidate in
      let b : Before (take m q) (take r q') = rw e next.after in
      let l : length (take r q') ≡ r = length-take-le r q' (omega arith) in
      let l' : length (take m q) ≡ m = length-take-le m q (omega (arith, h.few, h.long)) in
      let bytes = candidate-bytes (take r q') c (omega arith) in
      let up = rank-before (take m q) (take r q') (candidate-bytes (take m q) h.candidate (omega (arith, h.few))) bytes b in
      let low = rank-low 12 (take r q') bytes.small (omega arith) in
      omega arith

module _ (p q : List ℕ) (m : ℕ) (h : Sought p q m) where
  there : length (take m q) ≡ m
  there = length-take-le m q (omega (arith, h.few, h.long))

  pub sought-room : m ≤ length q
  sought-room = omega (arith, h.few, h.long)

  pub sought-long : m ≡ length (take m q)
  sought-long = sym there

  -- there are no more candidates
  pub sought-over : 10 < m → Found p q None
  sought-over l = gap-over p (take m q) h.gap h.candidate (omega (arith, there))

  module _ (few : m ≤ 10) (k : ℕ) (told : k ≡ check_number (take m q)) where
    -- the candidate is a plan
    pub sought-found : k ≡ 0 → Found p q (Some m)
    sought-found e = (few, gap-found p (take m q) h.gap h.after ((check-exact (take m q)).0 (sym told ∙ e)) (omega (arith, there)))

    -- it is refused
    pub refused-ready : (k ≡ 0 → ⊥) → Candidate (take m q) × (length (take m q) ≤ 12) × (Accepted (take m q) → ⊥)
    refused-ready n = (h.candidate, omega (arith, there, h.few), λ ok. n (told ∙ (check-exact (take m q)).1 ok))

  -- and the search goes on
  pub going_on : m ≤ 10 → 0 < size p → (j : ℕ) → Dead (take m q) j → Going p q m j
  going_on few nodes j dead =
      let f = follows j (take m q) h.candidate in
      let low : 0 < size (take m q) = cases h.after (λ z. omega arith) (λ z. omega (arith, z.0)) in
      record {
        long = h.long;
        low = omega (arith, there, h.candidate.even);
        few = few;
        candidate = h.candidate;
        gap = gap-on j p (take m q) h.candidate h.gap dead;
        after = before-trans h.after f.after;
      }
