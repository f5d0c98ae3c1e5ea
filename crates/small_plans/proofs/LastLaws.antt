-- The last small plan: no small plan comes after it, and it comes after every other. Assumes nothing.
use mathlib.Core.Path.{◌≡◌, refl, sym, ◌∙◌, ap}
use mathlib.Core.List.{List, [], ◌∷◌}
use mathlib.Core.Logic.{◌⊎◌, inl, inr}
use Prim.Native.Nat.{ℕ, zero, suc, ◌≤◌, ◌<◌}
use native.Mathlib.Omega.{arith}
use lib.Dec.{eqb, ltb}
use lib.ListN.{length, get_or}
use borrow.Author.Tests.{eqb-true, eqb-false, ltb-true, ltb-false}
use Rattle.lists.proofs.Logic.{cases, decided}
use Rattle.lists.proofs.Members.{none_in}
use Rattle.lists.specs.Seq.{keep, up_from, all_below}
use Rattle.lists.specs.Smallest.{Less, here, there}
use Rattle.plan.specs.Plan.{kind_of, size, kind_byte, kind, parent, children_below, children, child_count, depth_within, depth}
use Rattle.plan.specs.Check.{length_ok, kind_ok, parent_ok, under_block, fits, count_ok, depth_ok, at_all, check_number, Accepted}
use Rattle.plan.proofs.AcceptedLaws.{child-between}
use Rattle.plan.proofs.KindLaws.{block-kind}
use Rattle.plan.proofs.Main.{check-exact}
use Rattle.small_plans.specs.Order.{Before}
use Rattle.small_plans.specs.Claim.{Small, last, LastOnly}
use Rattle.small_plans.proofs.NextLaws.{before-not, next-right}

last-check : check_number last ≡ 0
unfolding check_number length_ok at_all kind_ok parent_ok under_block fits count_ok depth_ok kind_of size kind_byte kind parent children_below children child_count depth_within depth keep up_from all_below
last-check = refl

last-size : size last ≡ 5
unfolding size
last-size = refl

pub last-small : Small last
last-small = record { accepted = (check-exact last).0 last-check; few = omega (arith, last-size) }

-- the node behind which there is none is a task
end-childless : (p : List ℕ) → Accepted p → (v : ℕ) → suc v ≡ size p → children p v ≡ []
end-childless p ok v e = none_in (children p v) (λ c i. let b = child-between p ok v i in omega (arith, b.0, b.1))

pub end-task : (p : List ℕ) → Accepted p → (v : ℕ) → suc v ≡ size p → kind_byte p v ≤ 1
end-task p ok v e = cases (decided (ltb 1 (kind_byte p v)))
    (λ z. let some = ok.blocks v (omega arith) (block-kind p v (ltb-true 1 (kind_byte p v) z) (ok.high v (omega arith))) in
    absurd (omega (arith, ap length (end-childless p ok v e))))
    (λ z. ltb-false 1 (kind_byte p v) z)

-- a list that has no greater byte anywhere is no greater
within : (l h : List ℕ) → length l ≡ length h → ((i : ℕ) → i < length h → get_or l i 0 ≤ get_or h i 0) → (l ≡ h) ⊎ Less l h
within [] [] e f = inl refl
within [] (c ∷ h) e f = absurd (omega arith)
within (b ∷ l) [] e f = absurd (omega arith)
within (b ∷ l) (c ∷ h) e f = cases (decided (eqb b c))
    (λ z. let q = eqb-true b c z in cases (within l h (omega arith) (λ i k. f (suc i) (omega arith))) (λ s. inl (rw (q, s) refl)) (λ s. inr (there q s)))
    (λ z. let ne = eqb-false b c z in let le = f 0 (omega arith) in inr (here {b = b} {c = c} (omega arith)))

-- the bytes of a plan of five nodes
five : (p : List ℕ) → Accepted p → size p ≡ 5 → (i : ℕ) → i < 10 → get_or p i 0 ≤ get_or last i 0
unfolding kind_byte parent
five p ok e zero l = ok.high 0 (omega arith)
five p ok e (suc zero) l = let r = ok.root in omega arith
five p ok e (suc (suc zero)) l = ok.high 1 (omega arith)
five p ok e (suc (suc (suc zero))) l = let b = ok.below 1 (omega arith) (omega arith) in omega arith
five p ok e (suc (suc (suc (suc zero)))) l = ok.high 2 (omega arith)
five p ok e (suc (suc (suc (suc (suc zero))))) l = let b = ok.below 2 (omega arith) (omega arith) in omega arith
five p ok e (suc (suc (suc (suc (suc (suc zero)))))) l = ok.high 3 (omega arith)
five p ok e (suc (suc (suc (suc (suc (suc (suc zero))))))) l = let b = ok.below 3 (omega arith) (omega arith) in omega arith
five p ok e (suc (suc (suc (suc (suc (suc (suc (suc zero)))))))) l = end-task p ok 4 (sym e)
five p ok e (suc (suc (suc (suc (suc (suc (suc (suc (suc zero))))))))) l = let b = ok.below 4 (omega arith) (omega arith) in omega arith
five p ok e (suc (suc (suc (suc (suc (suc (suc (suc (suc (suc i)))))))))) l = absurd (omega arith)

up-to-last : (p : List ℕ) → Small p → (p ≡ last) ⊎ Before p last
up-to-last p s = cases (decided (eqb (size p) 5))
    (λ z. let e = eqb-true (size p) 5 z in
    cases (within p last (omega (arith, s.accepted.even)) (five p s.accepted e)) inl (λ l. inr (inr (e ∙ sym last-size, l))))
    (λ z. let ne = eqb-false (size p) 5 z in let few = s.few in inr (inl (omega (arith, last-size))))

before_self : {p : List ℕ} → Before p p → ⊥
before_self b = before-not b b

pub last-only : LastOnly
last-only p s = (
  λ e. cases (up-to-last p s) (λ q. q) (λ b. absurd ((next-right p).last.0 e last last-small b)),
  λ e. (next-right p).last.1 (λ r t b. cases (up-to-last r t) (λ q. before_self (rw (q, e) at b)) (λ k. before-not k (rw e at b))),
)
