-- What the call comes to, by the test that fails first. Assumes nothing.
use Rattle.std.proofs.Common.{◌≡◌, refl, sym, ◌∙◌, ap, subst, List, ◌++◌, ℕ, ◌/◌, ◌≤◌, ◌<◌, Some, None, arith, length, take, drop, replicate, length-append, length-drop}
use Rattle.std.proofs.lemmas.List.{length-replicate}
use Rattle.std.proofs.Math.Option.{none, some}
use lib.Seq.{length-take-le, take_at}
use Rattle.plan.specs.Plan.{size}
use Rattle.plan.specs.Check.{check_number, Accepted}
use Rattle.plan.specs.Made.{made, in_front}
use Rattle.plan.proofs.Main.{check-exact}
use Rattle.small_plans.specs.Order.{next_plan}
use Rattle.small_plans.specs.Call.{next_of}
use Rattle.small_plans.specs.Claim.{Small}
use Rattle.small_plans.proofs.CallLaws as call
use Rattle.next_plan.specs.Search.{Found}

-- k is what the check says
module _ (p : List ℕ) (k : ℕ) (told : k ≡ check_number p) where
  passed-plan : k ≡ 0 → Accepted p
  passed-plan e = (check-exact p).0 (sym told ∙ e)

  pub too_large : k ≡ 0 → 10 < length p → (out : List ℕ) → next_of p out ≡ made 27 0 out
  too_large e l out = let ok = passed-plan e in call.by-nodes p out ok (omega (arith, ok.even))

  pub small-plan : k ≡ 0 → length p ≤ 10 → Small p
  small-plan e l = let ok = passed-plan e in record { accepted = ok; few = omega (arith, ok.even) }

-- z is the plan, copied to the front of twelve bytes
module _ (p z : List ℕ) (s : Small p) (few : length p ≤ 10) (copied : z ≡ p ++ drop (length p) (replicate 12 0)) where
  front : take (length p) z ≡ p
  front = ap (take (length p)) copied ∙ take_at p (drop (length p) (replicate 12 0)) (length p) refl

  pub copied-ready : (length z ≡ 12) × (length p ≤ 10) × Small (take (length p) z)
  copied-ready = (omega (arith, ap length copied, length-append p (drop (length p) (replicate 12 0)), length-drop {A = ℕ} (length p) (replicate 12 0), length-replicate {A = ℕ} 12 0), few, rw front s)

  -- the search found nothing
  pub found_none : (q : List ℕ) → Found (take (length p) z) q None → (out : List ℕ) → next_of p out ≡ made 26 0 out
  found_none q found out = call.by_last p out s (subst (λ t. next_plan t ≡ none) front found)

  -- it found m bytes of q
  module _ (q : List ℕ) (m : ℕ) (found : Found (take (length p) z) q (Some m)) (out : List ℕ) where
    next-some : next_plan p ≡ some (take m q)
    next-some = subst (λ t. next_plan t ≡ some (take m q)) front found.1

    pub found-lent : (length out ≡ 10 → ⊥) → next_of p out ≡ made 7 0 out
    found-lent n = call.by-lent p out s (take m q) next-some n

    module _ (long : length q ≡ 12) where
      pub found-long : m ≡ length (take m q)
      found-long = sym (length-take-le m q (omega (arith, found.0)))

      pub found-done : length out ≡ 10 → (out' : List ℕ) → out' ≡ take m q ++ drop m out → next_of p out ≡ made 0 (m / 2) out'
      unfolding size in_front
      found-done e out' h =
          call.next-passed p out s (take m q) next-some e
          ∙ ap (λ n. made 0 (n / 2) (take m q ++ drop n out)) (sym found-long)
          ∙ ap (made 0 (m / 2)) (sym h)
