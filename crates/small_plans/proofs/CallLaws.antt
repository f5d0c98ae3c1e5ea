-- When the call passes, and which number it answers otherwise. Assumes nothing.
use mathlib.Core.Path.{◌≡◌, refl, sym, ◌∙◌, ap}
use mathlib.Core.List.{List}
use mathlib.Core.Option.{Option, none, some}
use Prim.Native.Nat.{ℕ, ◌<◌}
use native.Mathlib.Omega.{arith}
use lib.Dec.{eqb, leb}
use lib.ListN.{length}
use borrow.Author.Tests.{eqb-true, eqb-false, eq-eqb, ne_eqb, leb-true, leb-false, le-leb, lt-leb}
use Rattle.lists.proofs.Logic.{cases, decided}
use Rattle.plan.specs.Plan.{size}
use Rattle.plan.specs.Check.{check_number, Accepted}
use Rattle.plan.specs.Made.{Made, made, in_front}
use Rattle.plan.proofs.Main.{check-exact}
use Rattle.small_plans.specs.Order.{next_plan}
use Rattle.small_plans.specs.Call.{given, next_of}
use Rattle.small_plans.specs.Claim.{Small, last, AsNext, NextCall, NextNumbers}
use Rattle.small_plans.proofs.NextLaws.{next-right}
use Rattle.small_plans.proofs.LastLaws.{last-small, last-only}

-- what a call comes to, by the test that fails first
module _ (p out : List ℕ) where
  pub by-plan : (k : ℕ) → k ≡ check_number p → (k ≡ 0 → ⊥) → next_of p out ≡ made k 0 out
  unfolding next_of
  by-plan k e n = rw (← e, ne_eqb k 0 n)

  pub by-nodes : Accepted p → 5 < size p → next_of p out ≡ made 27 0 out
  unfolding next_of
  by-nodes ok l = rw ((check-exact p).1 ok, lt-leb (size p) 5 l)

  by_next : Small p → next_of p out ≡ given (next_plan p) out
  unfolding next_of
  by_next s = rw ((check-exact p).1 s.accepted, le-leb (size p) 5 s.few)

  pub by_last : Small p → next_plan p ≡ none → next_of p out ≡ made 26 0 out
  unfolding given
  by_last s e = by_next s ∙ rw e refl

  module _ (s : Small p) (q : List ℕ) (next : next_plan p ≡ some q) where
    pub by-lent : (length out ≡ 10 → ⊥) → next_of p out ≡ made 7 0 out
    unfolding given
    by-lent n = by_next s ∙ rw (next, ne_eqb (length out) 10 n) refl

    pub next-passed : length out ≡ 10 → next_of p out ≡ made 0 (size q) (in_front q out)
    unfolding given
    next-passed e = by_next s ∙ rw (next, eq-eqb (length out) 10 e) refl

-- no call answers two numbers
differs : {a b : Made} → a ≡ b → (a.number ≡ b.number → ⊥) → ⊥
differs e n = n (ap (λ (x : Made). x.number) e)

-- what a call that passed was asked for
module _ (p out : List ℕ) (n : ℕ) (out' : List ℕ) (h : next_of p out ≡ made 0 n out') where
  asked-plan : Accepted p
  asked-plan = cases (decided (eqb (check_number p) 0)) (λ z. (check-exact p).0 (eqb-true (check_number p) 0 z))
      (λ z. let ne = eqb-false (check_number p) 0 z in absurd (differs (sym (by-plan p out _ refl ne) ∙ h) ne))

  asked-small : Small p
  asked-small = record {
    accepted = asked-plan;
    few = cases (decided (leb (size p) 5)) (leb-true (size p) 5)
        (λ z. absurd (differs (sym (by-nodes p out asked-plan (leb-false (size p) 5 z)) ∙ h) (λ e. omega arith)));
  }

  as-next : AsNext p out n out'
  unfolding in_front
  as-next = go (next_plan p) refl
    where
      go : (o : Option (List ℕ)) → next_plan p ≡ o → AsNext p out n out'
      go none e = absurd (differs (sym (by_last p out asked-small e) ∙ h) (λ z. omega arith))
      go (some q) e = cases (decided (eqb (length out) 10))
          (λ z. let long = eqb-true (length out) 10 z in
          let is = sym (next-passed p out asked-small q e long) ∙ h in
          record { small = asked-small; long = long; plan = q; right = ((next-right p).found q).0 e; nodes = sym (ap (λ (x : Made). x.nodes) is); left = sym (ap (λ (x : Made). x.out) is) })
          (λ z. absurd (differs (sym (by-lent p out asked-small q e (eqb-false (length out) 10 z)) ∙ h) (λ z. omega arith)))

pub next-call : NextCall
unfolding in_front
next-call p out n out' = (
  as-next p out n out',
  λ h. next-passed p out h.small h.plan (((next-right p).found h.plan).1 h.right) h.long ∙ (rw (h.nodes, h.left) refl),
)

-- a small plan that is not the last has a next
not_last : (p out : List ℕ) → Small p → (p ≡ last → ⊥) → (length out ≡ 10 → ⊥) → next_of p out ≡ made 7 0 out
not_last p out s other long = go (next_plan p) refl
  where
    go : (o : Option (List ℕ)) → next_plan p ≡ o → next_of p out ≡ made 7 0 out
    go none e = absurd (other ((last-only p s).0 e))
    go (some q) e = by-lent p out s q e long

pub next-numbers : NextNumbers
next-numbers p out = record {
  by-plan = by-plan p out _ refl;
  by_last = λ e. let s : Small p = rw e last-small in by_last p out s ((last-only p s).1 e);
  by-nodes = by-nodes p out;
  by-lent = not_last p out;
}
