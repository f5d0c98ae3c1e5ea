-- The next plan is the least small one behind a plan, and there is one wherever a small plan comes after it. Assumes nothing.
use mathlib.Core.Path.{◌≡◌, refl, sym, ◌∙◌, ap}
use mathlib.Core.Bool.{true}
use mathlib.Core.List.{List, [], ◌∷◌}
use mathlib.Core.Logic.{◌⊎◌, inl, inr}
use mathlib.Core.Option.{Option, none, some}
use Prim.Native.Nat.{ℕ, suc, ◌+◌, ◌-◌, ◌*◌, ◌/◌, ◌%◌, ◌<◌}
use native.Mathlib.Omega.{arith}
use lib.Dec.{eqb, ltb}
use lib.ListN.{length, get_or, get_or-eq_default}
use borrow.Author.Tests.{eqb-true, eqb-false, eq-eqb, ltb-true, ltb-false, lt-ltb}
use Rattle.lists.specs.Bytes.{Bytes}
use Rattle.lists.proofs.Logic.{cases, decided, either, and_left, and_right, and-join, clash}
use Rattle.plan.specs.Plan.{size, kind_byte, parent}
use Rattle.plan.specs.Check.{check_number, Accepted}
use Rattle.plan.proofs.PlanLaws.{size-half}
use Rattle.plan.proofs.Main.{check-exact}
use Rattle.lists.specs.Smallest.{Less, here, there}
use Rattle.lists.proofs.SmallestLaws.{below-empty, below-found, no-list, Smallest, found-least}
use Rattle.lists.proofs.OrderLaws.{less-apart}
use Rattle.small_plans.specs.Order.{is_less, is_before, Before, is_later, next_plan}
use Rattle.small_plans.specs.Claim.{Small, IsNext, Next}

less-told : (l m : List ℕ) → is_less l m ≡ true → Less l m
unfolding is_less
less-told (b ∷ l) (c ∷ m) h = cases ((either (ltb b c) _).0 h) (λ e. here (ltb-true b c e))
    (λ e. there (eqb-true b c (and_left (eqb b c) _ e)) (less-told l m (and_right (eqb b c) _ e)))
less-told [] m h = clash true refl (sym h)
less-told (b ∷ l) [] h = clash true refl (sym h)

less_by : {l m : List ℕ} → Less l m → is_less l m ≡ true
unfolding is_less
less_by (here {b = b} {c = c} h) = (either (ltb b c) _).1 (inl (lt-ltb b c h))
less_by (there {b = b} {c = c} e h) = (either (ltb b c) _).1 (inr (and-join (eqb b c) _ (eq-eqb b c e) (less_by h)))

before-told : (p q : List ℕ) → is_before p q ≡ true → Before p q
unfolding is_before
before-told p q h = cases ((either (ltb (size p) (size q)) _).0 h) (λ e. inl (ltb-true (size p) (size q) e))
    (λ e. inr (eqb-true (size p) (size q) (and_left (eqb (size p) (size q)) _ e), less-told p q (and_right (eqb (size p) (size q)) _ e)))

before-by : (p q : List ℕ) → Before p q → is_before p q ≡ true
unfolding is_before
before-by p q (inl l) = (either (ltb (size p) (size q)) _).1 (inl (lt-ltb (size p) (size q) l))
before-by p q (inr h) = (either (ltb (size p) (size q)) _).1 (inr (and-join (eqb (size p) (size q)) _ (eq-eqb (size p) (size q) h.0) (less_by h.1)))

-- neither comes before the other, if it comes after it
pub before-not : {p q : List ℕ} → Before p q → Before q p → ⊥
before-not (inl a) (inl b) = omega arith
before-not (inl a) (inr b) = omega (arith, b.0)
before-not (inr a) (inl b) = omega (arith, a.0)
before-not (inr a) (inr b) = less-apart a.1 b.1

-- an accepted plan's bytes
pub plan-bytes : (q : List ℕ) → Accepted q → Bytes (2 * size q) q
unfolding kind_byte parent
plan-bytes q ok = record { long = ok.even; small = λ i. cases (decided (ltb i (length q))) (λ z. inside i (ltb-true i (length q) z)) (λ z. let e = get_or-eq_default q 0 (ltb-false i (length q) z) in omega arith) }
  where
    half : (i : ℕ) → i < length q → i / 2 < size q
    half i l = omega (arith, ok.even)

    odd : (v : ℕ) → v < size q → parent q v < 256
    odd v l = cases (decided (eqb v 0)) (λ z. let e : v ≡ 0 = eqb-true v 0 z in rw e (let r = ok.root in omega arith)) (λ z. let n = eqb-false v 0 z in let b = ok.below v (omega arith) l in omega (arith, ok.few))

    inside : (i : ℕ) → i < length q → get_or q i 0 < 256
    inside i l = cases (decided (eqb (i % 2) 0))
        (λ z. let e : i ≡ 2 * (i / 2) = omega (arith, eqb-true (i % 2) 0 z) in let k = ok.high (i / 2) (half i l) in omega (arith, ap (λ j. get_or q j 0) e))
        (λ z. let e : i ≡ 2 * (i / 2) + 1 = omega (arith, eqb-false (i % 2) 0 z) in let k = odd (i / 2) (half i l) in omega (arith, ap (λ j. get_or q j 0) e))

module _ (p : List ℕ) where
  later-told : (q : List ℕ) → is_later p q ≡ true → Accepted q × Before p q
  unfolding is_later
  later-told q h = ((check-exact q).0 (eqb-true (check_number q) 0 (and_left (eqb (check_number q) 0) _ h)), before-told p q (and_right (eqb (check_number q) 0) _ h))

  later-by : (q : List ℕ) → Accepted q → Before p q → is_later p q ≡ true
  unfolding is_later
  later-by q ok b = and-join (eqb (check_number q) 0) _ (eq-eqb (check_number q) 0 ((check-exact q).1 ok)) (before-by p q b)

  -- of the plans of suc i nodes that come after p, the smallest
  of_size : (i : ℕ) (q : List ℕ) → Smallest (2 * suc i) (is_later p) q → (r : List ℕ) → Accepted r → Before p r → size r ≡ suc i → (q ≡ r) ⊎ Before q r
  of_size i q s r ok b e =
      let n = size-half q (suc i) s.bytes.long in
      let bytes : Bytes (2 * suc i) r = rw (← e) (plan-bytes r ok) in
      cases (s.least r bytes (later-by r ok b)) inl (λ l. inr (inr (n ∙ sym e, l)))

  next-told : (q : List ℕ) → next_plan p ≡ some q → IsNext p q
  unfolding next_plan
  next-told q h =
      let f = below-found _ _ q h in
      let s = found-least _ (is_later p) q f.1.is in
      let t = later-told q s.passes in
      let n = size-half q (suc f.0) s.bytes.long in
      record {
        small = record { accepted = t.0; few = omega (arith, f.1.low) };
        after = t.1;
        least = λ r sm b. cases (decided (ltb (size r) (size q)))
            (λ z. let l = ltb-true (size r) (size q) z in
            let some = sm.accepted.some in
            let e : 2 * suc (size r - 1) ≡ 2 * size r = omega arith in
            let none-there = f.1.before (size r - 1) (omega arith) in
            absurd (clash (is_later p r) (later-by r sm.accepted b) (no-list _ (is_later p) none-there r (rw e (plan-bytes r sm.accepted)))))
            (λ z. let g = ltb-false (size r) (size q) z in cases (decided (eqb (size r) (size q)))
            (λ y. of_size f.0 q s r sm.accepted b (eqb-true (size r) (size q) y ∙ n))
            (λ y. let ne = eqb-false (size r) (size q) y in inr (inl (omega arith))));
      }

  none_told : next_plan p ≡ none → (r : List ℕ) → Small r → Before p r → ⊥
  unfolding next_plan
  none_told h r sm b =
      let some = sm.accepted.some in
      let e : 2 * suc (size r - 1) ≡ 2 * size r = omega arith in
      let few = sm.few in
      let none-there = below-empty _ _ h (size r - 1) (omega arith) in
      clash (is_later p r) (later-by r sm.accepted b) (no-list _ (is_later p) none-there r (rw e (plan-bytes r sm.accepted)))

  next-unique : {q r : List ℕ} → IsNext p q → IsNext p r → q ≡ r
  next-unique {q} {r} a b = cases (a.least r b.small b.after) (λ e. e) (λ l. cases (b.least q a.small a.after) sym (λ k. absurd (before-not l k)))

  next-found : (q : List ℕ) → IsNext p q → next_plan p ≡ some q
  next-found q n = go (next_plan p) refl
    where
      go : (o : Option (List ℕ)) → next_plan p ≡ o → next_plan p ≡ some q
      go none e = absurd (none_told e q n.small n.after)
      go (some r) e = e ∙ ap some (next-unique (next-told r e) n)

  last-by : ((r : List ℕ) → Small r → Before p r → ⊥) → next_plan p ≡ none
  last-by h = go (next_plan p) refl
    where
      go : (o : Option (List ℕ)) → next_plan p ≡ o → next_plan p ≡ none
      go none e = e
      go (some r) e = let n = next-told r e in absurd (h r n.small n.after)

  pub next-right : Next p
  next-right = record { found = λ q. (next-told q, next-found q); last = (none_told, last-by) }
