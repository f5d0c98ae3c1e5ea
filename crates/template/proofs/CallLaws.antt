-- When the call passes, and which number it answers otherwise. Assumes nothing.
use mathlib.Core.Path.{◌≡◌, refl, sym, ◌∙◌, ap}
use mathlib.Core.Bool.{Bool, true, false, cond, not}
use mathlib.Core.List.{List}
use mathlib.Core.Logic.{◌⊎◌, inl, inr, ◌↔◌}
use Prim.Native.Nat.{ℕ, ◌≤◌, ◌<◌}
use native.Mathlib.Omega.{arith}
use lib.Dec.{eqb, ltb, leb}
use lib.ListN.{length}
use borrow.Author.Tests.{eqb-true, eqb-false, eq-eqb, ne_eqb, ltb-true, lt-ltb, le-ltb, leb-true, le-leb, lt-leb}
use Rattle.lists.proofs.Logic.{cases, no_bool, either, and_left, and_right, and-join, test-passed, number_passed}
use Rattle.plan.specs.Plan.{size, kind_byte, children, child_count}
use Rattle.plan.specs.Check.{fit_number, Accepted}
use Rattle.plan.specs.Made.{Made, made, in_front}
use Rattle.plan.proofs.Main.{fit-exact}
use Rattle.trees.specs.Tree.{node_count}
use Rattle.template.specs.Repeat.{can_repeat, can_mark, repeated_tree, repeated}
use Rattle.template.specs.Call.{times_ok, template_number, repeat_number, repeat_of}
use Rattle.template.specs.Claim.{Template, AsRepeated, Numbers}
use Rattle.template.proofs.PlanLaws.{repeat-size, repeat-right, repeat-only}

-- S1, by the test
can-told : (k : ℕ) → can_repeat k ≡ true → (k ≡ 3) ⊎ ((k ≡ 4) ⊎ ((k ≡ 5) ⊎ (k ≡ 8)))
unfolding can_repeat
can-told k h = cases ((either _ _).0 h)
    (λ a. cases ((either _ _).0 a)
    (λ b. cases ((either _ _).0 b) (λ e. inl (eqb-true k 3 e)) (λ e. inr (inl (eqb-true k 4 e))))
    (λ e. inr (inr (inl (eqb-true k 5 e)))))
    (λ e. inr (inr (inr (eqb-true k 8 e))))

can-by : (k : ℕ) → (k ≡ 3) ⊎ ((k ≡ 4) ⊎ ((k ≡ 5) ⊎ (k ≡ 8))) → can_repeat k ≡ true
unfolding can_repeat
can-by k h = cases h (λ e. rw e refl) (λ h. cases h (λ e. rw e refl) (λ h. cases h (λ e. rw e refl) (λ e. rw e refl)))

pub mark-told : (p : List ℕ) (m : ℕ) → Accepted p → m < size p → can_mark p m ≡ true → Template p m
unfolding can_mark child_count
mark-told p m ok l h = record { accepted = ok; node = l; block = can-told (kind_byte p m) (and_left (can_repeat (kind_byte p m)) _ h); one = eqb-true (length (children p m)) 1 (and_right (can_repeat (kind_byte p m)) _ h) }

mark-by : {p : List ℕ} {m : ℕ} → Template p m → can_mark p m ≡ true
unfolding can_mark child_count
mark-by {p} {m} h = and-join _ _ (can-by (kind_byte p m) h.block) (eq-eqb (length (children p m)) 1 h.one)

times-by : (r : ℕ) → 1 ≤ r → r ≤ 32 → times_ok r ≡ true
unfolding times_ok
times-by r a b = and-join _ _ (le-leb 1 r a) (le-leb r 32 b)

pub times-told : (r : ℕ) → times_ok r ≡ true → (1 ≤ r) × (r ≤ 32)
unfolding times_ok
times-told r h = (leb-true 1 r (and_left (leb 1 r) _ h), leb-true r 32 (and_right (leb 1 r) _ h))

-- k is what the tests before the template's say
pub repeat-ready : (p out : List ℕ) (k : ℕ) → k ≡ fit_number p (eqb (length out) 320) → k ≡ 0 → Accepted p × (length out ≡ 320)
repeat-ready p out k told e = let f = (fit-exact p (eqb (length out) 320)).none.0 (sym told ∙ e) in (f.0, eqb-true (length out) 320 f.1)

-- what a call comes to, by the test that fails first
module _ (p : List ℕ) (m r : ℕ) (out : List ℕ) where
  repeat-refused : (k : ℕ) → repeat_number p m r out ≡ k → (k ≡ 0 → ⊥) → repeat_of p m r out ≡ made k 0 out
  unfolding repeat_of
  repeat-refused k e n = rw (e, ne_eqb k 0 n)

  pub by-lent : (k : ℕ) → k ≡ fit_number p (eqb (length out) 320) → (k ≡ 0 → ⊥) → repeat_of p m r out ≡ made k 0 out
  unfolding repeat_number
  by-lent k e n = repeat-refused k (rw (← e, ne_eqb k 0 n)) n

  module _ (ok : Accepted p) (long : length out ≡ 320) where
    fine : fit_number p (eqb (length out) 320) ≡ 0
    fine = (fit-exact p (eqb (length out) 320)).none.1 (ok, eq-eqb (length out) 320 long)

    number : repeat_number p m r out ≡ template_number p m r
    unfolding repeat_number
    number = rw fine

    pub by-node : size p ≤ m → repeat_of p m r out ≡ made 8 0 out
    unfolding template_number
    by-node l = repeat-refused 8 (number ∙ rw (le-ltb m (size p) l)) (λ e. omega arith)

    pub by-mark : m < size p → can_mark p m ≡ false → repeat_of p m r out ≡ made 23 0 out
    unfolding template_number
    by-mark l n = repeat-refused 23 (number ∙ rw (lt-ltb m (size p) l, n)) (λ e. omega arith)

  module _ (h : Template p m) (long : length out ≡ 320) where
    pub by_count : times_ok r ≡ false → repeat_of p m r out ≡ made 24 0 out
    unfolding template_number
    by_count n = repeat-refused 24 (number h.accepted long ∙ rw (lt-ltb m (size p) h.node, mark-by h, n)) (λ e. omega arith)

    module _ (some : 1 ≤ r) (most : r ≤ 32) where
      pub by-nodes : 160 < node_count (repeated_tree p m r) → repeat_of p m r out ≡ made 25 0 out
      unfolding template_number
      by-nodes l = repeat-refused 25 (number h.accepted long ∙ rw (lt-ltb m (size p) h.node, mark-by h, times-by r some most, lt-leb _ 160 l)) (λ e. omega arith)

      pub repeat-passed : node_count (repeated_tree p m r) ≤ 160 → repeat_of p m r out ≡ made 0 (size (repeated p m r)) (in_front (repeated p m r) out)
      unfolding template_number repeat_of
      repeat-passed l = rw (number h.accepted long, lt-ltb m (size p) h.node, mark-by h, times-by r some most, le-leb (node_count (repeated_tree p m r)) 160 l)

-- what a call that passed was asked for
record Asked (p : List ℕ) (m r : ℕ) (out : List ℕ) : Type 0 where
  template : Template p m
  long : length out ≡ 320
  times : (1 ≤ r) × (r ≤ 32)
  few : node_count (repeated_tree p m r) ≤ 160

asked : (p : List ℕ) (m r : ℕ) (out : List ℕ) → repeat_number p m r out ≡ 0 → Asked p m r out
unfolding repeat_number template_number
asked p m r out e =
    let a = number_passed (fit_number p (eqb (length out) 320)) (template_number p m r) e in
    let ready = repeat-ready p out _ refl a.0 in
    let b = test-passed (ltb m (size p)) 7 _ a.1 in
    let c = test-passed (can_mark p m) 22 _ b.1 in
    let d = test-passed (times_ok r) 23 _ c.1 in
    let f = test-passed (leb (node_count (repeated_tree p m r)) 160) 24 0 d.1 in
    record {
      template = mark-told p m ready.0 (ltb-true m (size p) b.0) c.0;
      long = ready.1;
      times = times-told r d.0;
      few = leb-true (node_count (repeated_tree p m r)) 160 f.0;
    }

-- a call passes just where its number is 0
passed-just : (k : ℕ) (out : List ℕ) (n n' : ℕ) (new out' : List ℕ) →
    cond (not (eqb k 0)) (made k 0 out) (made 0 n new) ≡ made 0 n' out' → (k ≡ 0) × (n ≡ n') × (new ≡ out')
passed-just k out n n' new out' = go (eqb k 0) refl
  where
    go : (b : Bool) → eqb k 0 ≡ b → cond (not b) (made k 0 out) (made 0 n new) ≡ made 0 n' out' → (k ≡ 0) × (n ≡ n') × (new ≡ out')
    go true e h = (eqb-true k 0 e, ap (λ (x : Made). x.nodes) h, ap (λ (x : Made). x.out) h)
    go false e h = absurd (eqb-false k 0 e (ap (λ (x : Made). x.number) h))

pub repeat-call : (p : List ℕ) (m r : ℕ) (out : List ℕ) (n : ℕ) (out' : List ℕ) → (repeat_of p m r out ≡ made 0 n out') ↔ AsRepeated p m r out n out'
unfolding repeat_of in_front
repeat-call p m r out n out' = (
  λ h. let e = passed-just (repeat_number p m r out) out (size (repeated p m r)) n (in_front (repeated p m r) out) out' h in
      let a = asked p m r out e.0 in
      record {
        template = a.template;
        long = a.long;
        some = a.times.0;
        most = a.times.1;
        plan = repeated p m r;
        right = repeat-right a.template r a.times.0 a.times.1 a.few;
        nodes = sym e.1;
        left = sym e.2;
      },
  λ h. let e = repeat-only p m r h.plan h.right in
      let few = h.right.accepted.few in
      repeat-passed p m r out h.template h.long h.some h.most (omega (arith, ap size e, repeat-size p m r))
      ∙ (rw (h.nodes, h.left, e) refl),
)

pub repeat-numbers : (p : List ℕ) (m r : ℕ) (out : List ℕ) → Numbers p m r out
repeat-numbers p m r out = record {
  by-lent = λ n. by-lent p m r out _ refl n;
  by-node = by-node p m r out;
  by-mark = λ ok long l n. by-mark p m r out ok long l (no_bool (can_mark p m) (λ z. n (mark-told p m ok l z)));
  by_count = λ h long n. by_count p m r out h long (no_bool (times_ok r) (λ z. let t = times-told r z in cases n (λ e. omega arith) (λ l. omega arith)));
  by-nodes = by-nodes p m r out;
}
