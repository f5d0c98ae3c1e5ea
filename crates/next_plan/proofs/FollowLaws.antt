-- The next candidate of all: no plan lies between a candidate and the one that follows, but for those with the same front. Assumes nothing.
use mathlib.Core.Path.{◌≡◌, sym, ◌∙◌, ap}
use mathlib.Core.List.{List}
use mathlib.Core.Logic.{◌⊎◌, inl, inr}
use mathlib.Core.Option.{Option, none, some}
use Prim.Native.Nat.{ℕ, suc, ◌+◌, ◌*◌, ◌≤◌, ◌<◌}
use native.Mathlib.Omega.{arith}
use lib.Dec.{eqb}
use lib.ListN.{length, get_or}
use lib.Seq.{ext_get_or}
use borrow.Author.Tests.{eqb-true, eqb-false}
use Rattle.lists.proofs.Logic.{cases, decided}
use Rattle.lists.proofs.OrderLaws.{less-not}
use Rattle.plan.specs.Plan.{size}
use Rattle.plan.specs.Check.{Accepted}
use Rattle.plan.proofs.PlanLaws.{size-half}
use Rattle.lists.specs.Smallest.{Less}
use Rattle.small_plans.specs.Order.{Before, next_plan}
use Rattle.small_plans.proofs.Main.{next-right}
use Rattle.next_plan.specs.Candidates.{Fits, Candidate, lows, advance, or_lows, following}
use Rattle.next_plan.specs.Search.{Dead, Gap}
use Rattle.next_plan.proofs.AdvanceLaws.{lows-long, lows-least, lows-fit, Agree, NextList, Advanced, advance-told}
use Rattle.next_plan.proofs.CandidateLaws.{accepted-fits, accepted-candidate}

-- r has q's length and first k bytes
record Alike (k : ℕ) (q r : List ℕ) : Type 0 where
  long : length r ≡ length q
  same : (i : ℕ) → i < k → get_or q i 0 ≡ get_or r i 0

-- what follows a candidate
pub record Follows (k : ℕ) (q a : List ℕ) : Type 0 where
  pub candidate : Candidate a
  pub after : Before q a
  least : (r : List ℕ) → Accepted r → Before q r → Alike k q r ⊎ ((a ≡ r) ⊎ Before a r)

module _ (k : ℕ) (q : List ℕ) (c : Candidate q) where
  alike : (r : List ℕ) → length r ≡ length q → Agree k 0 q r → Alike k q r
  alike r e s = record { long = e; same = λ i l. s i (omega arith) }

  some-follows : (a : List ℕ) → NextList (length q) k 0 q a → Follows k q a
  some-follows a n =
      let e : size a ≡ size q = size-half a (size q) (n.long ∙ c.even) in
      record {
        candidate = record { fits = rw n.long n.fits; even = n.long ∙ c.even ∙ ap (λ s. 2 * s) (sym e) };
        after = inr (sym e, n.above);
        least = λ r ok b. cases b (λ l. inr (inr (inl (omega arith))))
            (λ h. let long : length r ≡ length q = omega (arith, h.0, ok.even, c.even) in
            cases (n.least r (rw (← long) (accepted-fits r ok)) long h.1) (λ s. inl (alike r long s))
            (λ s. inr (cases s inl (λ l. inr (inr (omega (arith, h.0), l))))));
      }

  longer-follows : ((r : List ℕ) → Fits (length q) 0 r → length r ≡ length q → Less q r → Agree k 0 q r) → Follows k q (lows 0 (length q + 2))
  longer-follows stays =
      let long : length (lows 0 (length q + 2)) ≡ 2 * suc (size q) = lows-long 0 (length q + 2) ∙ (let z : length q + 2 ≡ 2 * suc (size q) = omega (arith, c.even) in z) in
      let n : size (lows 0 (length q + 2)) ≡ suc (size q) = size-half (lows 0 (length q + 2)) (suc (size q)) long in
      record {
        candidate = record { fits = lows-fit _ 0 (length q + 2); even = long ∙ ap (λ s. 2 * s) (sym n) };
        after = inl (omega arith);
        least = λ r ok b. cases b
            (λ l. inr (cases (decided (eqb (size r) (suc (size q))))
            (λ z. let e = eqb-true (size r) (suc (size q)) z in
            cases (lows-least (length r) 0 (length q + 2) r (accepted-fits r ok) (omega (arith, ok.even, c.even))) inl (λ k. inr (inr (n ∙ sym e, k))))
            (λ z. let ne = eqb-false (size r) (suc (size q)) z in inr (inl (omega arith)))))
            (λ h. let long : length r ≡ length q = omega (arith, h.0, ok.even, c.even) in inl (alike r long (stays r (rw (← long) (accepted-fits r ok)) long h.1)));
      }

  pub follows : Follows k q (following k q)
  unfolding following or_lows Advanced
  follows = go (advance (length q) k 0 q) (advance-told (length q) k 0 q c.fits)
    where
      go : (o : Option (List ℕ)) → Advanced (length q) k 0 q o → Follows k q (or_lows o (length q + 2))
      go (some a) n = some-follows a n
      go none n = longer-follows n

-- from the plan itself: no other plan has all its bytes
pub gap-first : (p : List ℕ) → Accepted p → Gap p (following (length p) p)
gap-first p ok r s b = cases ((follows (length p) p (accepted-candidate p ok)).least r s.accepted b)
    (λ a. let e : p ≡ r = ext_get_or 0 p r (sym a.long) a.same in absurd (cases b (λ l. omega (arith, ap size e)) (λ h. less-not h.1 e)))
    (λ d. d)

-- from a candidate with a dead front
pub gap-on : (k : ℕ) (p q : List ℕ) → Candidate q → Gap p q → Dead q k → Gap p (following k q)
gap-on k p q c g dead r s b = cases (g r s b)
    (λ e. absurd (dead r s.accepted (ap length (sym e)) (λ i l. ap (λ (t : List ℕ). get_or t i 0) e)))
    (λ l. cases ((follows k q c).least r s.accepted l) (λ a. absurd (dead r s.accepted a.long a.same)) (λ d. d))

-- at a plan
pub gap-found : (p q : List ℕ) → Gap p q → Before p q → Accepted q → length q ≤ 10 → next_plan p ≡ some q
gap-found p q g b ok few = ((next-right p).found q).1 (record { small = record { accepted = ok; few = omega (arith, ok.even) }; after = b; least = g })

-- past all small plans
pub gap-over : (p q : List ℕ) → Gap p q → Candidate q → 10 < length q → next_plan p ≡ none
gap-over p q g c l = (next-right p).last.1 (λ r s b. let few = s.few in
    cases (g r s b) (λ e. omega (arith, ap size e, c.even)) (λ z. cases z (λ z. omega (arith, c.even)) (λ z. omega (arith, z.0, c.even))))
