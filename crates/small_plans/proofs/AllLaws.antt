-- From the single task on every small plan comes up, and none twice. Assumes nothing.
use mathlib.Core.Path.{◌≡◌, refl, sym, ◌∙◌}
use mathlib.Core.List.{List, [], ◌∷◌}
use mathlib.Core.Logic.{◌⊎◌, inl, inr}
use mathlib.Core.Option.{Option, none, some}
use Prim.Native.Nat.{ℕ, zero, suc, ◌+◌, ◌≤◌}
use native.Mathlib.Omega.{arith}
use lib.Dec.{eqb}
use lib.ListN.{length, get_or}
use borrow.Author.Tests.{eqb-true, eqb-false}
use Rattle.lists.proofs.Logic.{cases, decided}
use Rattle.lists.specs.Seq.{keep, up_from, all_below}
use Rattle.lists.specs.Smallest.{here}
use Rattle.lists.proofs.OrderLaws.{less-trans}
use Rattle.plan.specs.Plan.{kind_of, size, kind_byte, kind, parent, children_below, children, child_count, depth_within, depth}
use Rattle.plan.specs.Check.{length_ok, kind_ok, parent_ok, under_block, fits, count_ok, depth_ok, at_all, check_number, Accepted}
use Rattle.plan.proofs.Main.{check-exact}
use Rattle.small_plans.specs.Order.{Before, next_plan}
use Rattle.small_plans.specs.Claim as claim
use Rattle.small_plans.specs.Claim.{Small, single, SingleFirst, Reaches, AllComeUp, NoneTwice}
use Rattle.small_plans.proofs.NextLaws.{plan-bytes, next-right}
use Rattle.small_plans.proofs.RankLaws.{rank, rank-before}

pub before-trans : {p q r : List ℕ} → Before p q → Before q r → Before p r
before-trans {p} {q} {r} (inl a) (inl b) = inl (omega arith)
before-trans (inl a) (inr b) = inl (omega (arith, b.0))
before-trans (inr a) (inl b) = inl (omega (arith, a.0))
before-trans (inr a) (inr b) = inr (a.0 ∙ b.0, less-trans a.1 b.1)

later : {p q : List ℕ} → Reaches p q → (p ≡ q) ⊎ Before p q
later (claim.there e) = inl e
later {p} (claim.on {q = q} e r) = let n = ((next-right p).found q).0 e in inr (cases (later r) (λ s. rw (← s) n.after) (λ b. before-trans n.after b))

pub none-twice : NoneTwice
none-twice p q r e h = let n = ((next-right p).found q).0 e in cases (later h) (λ s. rw (← s) n.after) (λ b. before-trans n.after b)

-- from x on, p comes up: its rank is above x's by at most f
up-on : (f : ℕ) (x p : List ℕ) → Small x → Small p → Before x p → ((y : List ℕ) → Small y → (y ≡ p) ⊎ Before y p → rank p ≤ f + rank y → Reaches y p) → rank p ≤ suc f + rank x → Reaches x p
up-on f x p a b h again l = go (next_plan x) refl
  where
    go : (o : Option (List ℕ)) → next_plan x ≡ o → Reaches x p
    go none e = absurd ((next-right x).last.0 e p b h)
    go (some y) e =
        let n = ((next-right x).found y).0 e in
        let k = rank-before x y (plan-bytes x a.accepted) (plan-bytes y n.small.accepted) n.after in
        claim.on e (again y n.small (n.least p b h) (omega arith))

up : (f : ℕ) (x p : List ℕ) → Small x → Small p → (x ≡ p) ⊎ Before x p → rank p ≤ f + rank x → Reaches x p
up zero x p a b d l = cases d claim.there (λ h. absurd (let k = rank-before x p (plan-bytes x a.accepted) (plan-bytes p b.accepted) h in omega arith))
up (suc f) x p a b d l = cases d claim.there (λ h. up-on f x p a b h (λ y c e m. up f y p c b e m) l)

single-check : check_number single ≡ 0
unfolding check_number length_ok at_all kind_ok parent_ok under_block fits count_ok depth_ok kind_of size kind_byte kind parent children_below children child_count depth_within depth keep up_from all_below
single-check = refl

single-size : size single ≡ 1
unfolding size
single-size = refl

single-small : Small single
single-small = record { accepted = (check-exact single).0 single-check; few = omega (arith, single-size) }

-- of the lists of one node it is the least
two-least : (q : List ℕ) → length q ≡ 2 → size q ≡ 1 → 1 ≤ get_or q 0 0 → get_or q 1 0 ≡ 255 → (single ≡ q) ⊎ Before single q
two-least (b ∷ c ∷ []) long e low root = cases (decided (eqb b 1))
    (λ z. inl (rw (eqb-true b 1 z, root) refl))
    (λ z. let ne = eqb-false b 1 z in inr (inr (single-size ∙ sym e, here {b = 1} {c = b} (omega arith))))
two-least [] long e low root = absurd (omega arith)
two-least (b ∷ []) long e low root = absurd (omega arith)
two-least (b ∷ c ∷ d ∷ l) long e low root = absurd (omega arith)

single-least : (p : List ℕ) → Accepted p → size p ≡ 1 → (single ≡ p) ⊎ Before single p
unfolding kind_byte parent
single-least p ok e = two-least p (omega (arith, ok.even)) e (ok.low 0 (omega arith)) ok.root

pub single-first : SingleFirst
single-first = (
  single-small,
  λ p s. cases (decided (eqb (size p) 1))
      (λ z. single-least p s.accepted (eqb-true (size p) 1 z))
      (λ z. let ne = eqb-false (size p) 1 z in let some = s.accepted.some in inr (inl (omega (arith, single-size)))),
)

-- whatever comes up from a small plan on is small
only-small : {p q : List ℕ} → Small p → Reaches p q → Small q
only-small s (claim.there e) = rw (← e) s
only-small {p} s (claim.on {q = q} e r) = only-small (((next-right p).found q).0 e).small r

pub all-come-up : AllComeUp
all-come-up q = (only-small single-small, λ s. up (rank q) single q single-small s (single-first.1 q s) (omega arith))
