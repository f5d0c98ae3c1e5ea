-- The loop of `settle` over v's children, a turn at a time: what is left of the walk says what the whole says. Assumes nothing.
use mathlib.Core.Path.{◌≡◌, refl, sym, ◌∙◌, ap}
use mathlib.Core.Bool.{Bool, true, false, cond, false≢true}
use mathlib.Core.List.{List, [], ◌∷◌}
use Prim.Native.Nat.{ℕ, zero, suc, ◌+◌, ◌-◌, ◌≤◌, ◌<◌}
use native.Mathlib.Numerals.{add-one}
use native.Mathlib.Omega.{arith}
use lib.Dec.{eqb}
use lib.ListN.{length, get_or, set, length-set}
use borrow.Author.Tests.{eqb-true, eqb-false, eq-eqb, ne_eqb}
use Rattle.lists.proofs.Logic.{cases, decided, and_left, and_right}
use Rattle.plan.specs.Plan.{kind_number, is_kind, size}
use Rattle.plan.specs.declared.kinds.Kind.{Kind}
use Rattle.plan.specs.declared.kinds.Kind.TheVariants.{Xor as xor, Conditional as conditional}
use Rattle.plan.proofs.PlanLaws.{Child}
use Rattle.pass.specs.Pass.{Settled, Tally, Walked, goes, goes_by, skip, note, child_mark, child_settled, meet_by, meet, walk, nothing, unwalked, bad_answer, end_of, close, settle_if, settle_by, settle}
use Rattle.pass.specs.Values.{outcome_of, tally_of, so_far, comes_to, says_no, done_by, ends_as, Ready, Settles}
use Rattle.links.specs.Links.{led_to}
use Rattle.pass.proofs.StateLaws.{note-places, Seen, seen-down, seen_none, seen_more, Ends, seen_end, mark-place}
use Rattle.pass.proofs.GoesLaws.{late, Over, end-late, fault-ends, over-fault, over_done, goes_on, begins-on}
use Rattle.plan.proofs.KindLaws.{same_kind}
use Rattle.links.proofs.LinkLaws.{led-none, first-child, next-child, led-all, led_on}
use Rattle.pass.proofs.SettleLaws.{Begun}

abbrev walked : Tally → List ℕ → Walked
walked t m = record { tally = t; marks = m }

-- children that are not reached change nothing
pass-by : (f : ℕ → List ℕ → Settled) (k : Kind) (x : ℕ) (w : Walked) (c : ℕ) → goes k x w.tally ≡ false → meet f k x w c ≡ walked (skip w.tally) w.marks
unfolding meet meet_by
pass-by f k x w c e = rw e

walk-late : (f : ℕ → List ℕ → Settled) (k : Kind) (x : ℕ) (t : Tally) → Over k x t → (cs : List ℕ) (n : ℕ) (m : List ℕ) → t.places ≤ n →
    close k x (walk f k x cs (walked (late n t) m)) ≡ record { outcome = end_of k x t; marks = m }
unfolding walk skip late close
walk-late f k x t over [] n m l = rw (end-late k x n t)
walk-late f k x t over (c ∷ cs) n m l =
    ap (λ w. close k x (walk f k x cs w)) (pass-by f k x (walked (late n t) m) c (over n l)) ∙ walk-late f k x t over cs (suc n) m (omega arith)

walk-over : (f : ℕ → List ℕ → Settled) (k : Kind) (x : ℕ) (t : Tally) → Over k x t → (cs : List ℕ) (m : List ℕ) →
    close k x (walk f k x cs (walked t m)) ≡ record { outcome = end_of k x t; marks = m }
unfolding late
walk-over f k x t over cs m = walk-late f k x t over cs t.places m (omega arith)

-- the block's state behind n children is e, and the marks are m; the link c leads to the other children, the first of which is reached
pub record Walking (p a f s m₀ : List ℕ) (v : ℕ) (k : Kind) (x : ℕ) (m : List ℕ) (e n c : ℕ) : Type 0 where
  pub begun : Begun p a f s m₀ v k x
  pub tally : Tally
  pub seen : Seen k tally e
  pub places : is_kind xor k ≡ true → n ≡ tally.places
  pub child : (c ≡ 0 → ⊥) → Child p v c × (n < c) × (goes k x tally ≡ true)
  pub long : length m ≡ size p
  pub so-far : (fuel : ℕ) → size p ≤ v + suc fuel → settle p a (suc fuel) v m₀ ≡ close k x (walk (settle p a fuel) k x (led_to p v c) (walked tally m))

module _ {p a f s m₀ : List ℕ} {v : ℕ} {k : Kind} {x : ℕ} (b : Begun p a f s m₀ v k x) where
  -- a block that came to e, with all children behind it
  ended : (t : Tally) (m : List ℕ) (e z : ℕ) → Seen k t e → z ≡ ends_as k x e →
      ((fuel : ℕ) → size p ≤ v + suc fuel → settle p a (suc fuel) v m₀ ≡ record { outcome = end_of k x t; marks = m }) → Settles p a m₀ v m z
  ended t m e z h g all = record { by = go; least = rw g end.least }
    where
      end : Ends (ends_as k x e) (end_of k x t)
      end = seen_end k x t e b.block h

      go : (fuel : ℕ) → size p ≤ v + fuel → settle p a fuel v m₀ ≡ record { outcome = outcome_of z; marks = m }
      go zero l = absurd (omega (arith, b.ready.node))
      go (suc fuel) l = all fuel l ∙ rw (g, end.is)

  -- its children, from the first on
  all_left : (fuel : ℕ) → settle p a (suc fuel) v m₀ ≡ close k x (walk (settle p a fuel) k x (led_to p v (get_or f v 0)) (unwalked m₀))
  unfolding settle settle_by settle_if
  all_left fuel = rw (← b.kind-is, ← b.answer-is, eq-eqb (bad_answer k x) 0 b.right, led-all b.links v b.ready.node)

  pub first_small : get_or f v 0 < 160
  first_small = cases (decided (eqb (get_or f v 0) 0)) (λ e. omega (arith, eqb-true (get_or f v 0) 0 e))
      (λ e. omega (arith, (first-child b.links v b.ready.node (eqb-false (get_or f v 0) 0 e)).0.high, b.ready.accepted.few))

  pub begin-first : says_no k x ≡ false → (e c : ℕ) → e ≡ so_far k nothing → c ≡ get_or f v 0 → Walking p a f s m₀ v k x m₀ e 0 c
  unfolding unwalked nothing
  begin-first q e c g h = rw (g, h) (record {
    begun = b;
    tally = nothing;
    seen = seen_none k;
    places = λ w. refl;
    child = λ n. ((first-child b.links v b.ready.node n).0, omega (arith, (first-child b.links v b.ready.node n).1), begins-on x k b.block q b.right);
    long = b.ready.marks;
    so-far = λ fuel l. all_left fuel;
  })

  -- one child on, by its link
  walk-on : (fuel c : ℕ) (w : Walked) → (c ≡ 0 → ⊥) → Child p v c →
      walk (settle p a fuel) k x (led_to p v c) w ≡ walk (settle p a fuel) k x (led_to p v (get_or s c 0)) (meet (settle p a fuel) k x w c)
  unfolding walk
  walk-on fuel c w n h = rw (led_on b.links v c n h)

  -- a conditional that is answered by no passes its first child by
  module _ (q : says_no k x ≡ true) where
    by_two : x ≡ 2
    unfolding says_no
    by_two = eqb-true x 2 (and_right (is_kind conditional k) (eqb x 2) q)

    of-two : k ≡ conditional
    unfolding says_no
    of-two = same_kind conditional k (and_left (is_kind conditional k) (eqb x 2) q)

    some-child : get_or f v 0 ≡ 0 → ⊥
    some-child e =
        let r = b.ready in
        let z : ◌≡◌ {A = ℕ} 0 2 = sym (ap length (led-all b.links v r.node ∙ led-none p v (get_or f v 0) e)) ∙ r.accepted.two v r.node (sym b.kind-is ∙ of-two) in
        omega arith

    pub begin-second : (e c d : ℕ) → e ≡ so_far k nothing → c ≡ get_or f v 0 → d ≡ get_or s c 0 → Walking p a f s m₀ v k x m₀ e 0 d
    unfolding unwalked nothing skip so_far goes goes_by is_kind kind_number
    begin-second e c d g h i =
        let ch = (first-child b.links v b.ready.node some-child).0 in
        rw (g, i, h) (record {
          begun = b;
          tally = skip nothing;
          seen = record { is = rw of-two; no-fault = refl; sound = λ w. absurd (false≢true w) };
          places = λ w. absurd (false≢true (rw of-two at w));
          child = λ n. ((next-child b.links v (get_or f v 0) ch n).0, omega (arith, (next-child b.links v (get_or f v 0) ch n).1), rw (of-two, by_two));
          long = b.ready.marks;
          so-far = λ fuel l. all_left fuel
              ∙ ap (close k x) (walk-on fuel (get_or f v 0) (unwalked m₀) some-child ch
              ∙ ap (walk (settle p a fuel) k x (led_to p v (get_or s (get_or f v 0) 0))) (pass-by (settle p a fuel) k x (unwalked m₀) (get_or f v 0) (rw (of-two, by_two))));
        })

-- a turn's bounds
pub record Turn (p a : List ℕ) (v : ℕ) (m : List ℕ) (n c : ℕ) : Type 0 where
  pub within : c < size p
  pub small : c < 160
  pub written : c < length m
  pub few : n < 255
  pub falls : size p - c < size p - v

-- how much is left from a link on
abbrev pub left : ℕ → ℕ → ℕ
left n c = cond (eqb c 0) 0 (n - c)

module _ {p a f s m₀ : List ℕ} {v : ℕ} {k : Kind} {x : ℕ} {m : List ℕ} {e n c : ℕ} (h : Walking p a f s m₀ v k x m e n c) where
  pub walk-long : length m ≡ length m₀
  walk-long = h.long ∙ sym h.begun.ready.marks

  pub turn-long : (m' : List ℕ) (y : ℕ) → length m' ≡ length m → length (set m' c y) ≡ length m₀
  turn-long m' y e = length-set m' c y ∙ e ∙ walk-long

  pub walk-down : e ≡ 5 → k ≡ xor
  walk-down q = seen-down k h.tally e h.seen q

  pub walk_ends : c ≡ 0 → (z : ℕ) → z ≡ ends_as k x e → Settles p a m₀ v m z
  unfolding walk close
  walk_ends q z g = ended h.begun h.tally m e z h.seen g (λ fuel l. h.so-far fuel l ∙ rw (led-none p v c q))

  module _ (l : c ≡ 0 → ⊥) where
    pub turn-bounds : Turn p a v m n c
    turn-bounds =
        let r = h.begun.ready in
        let ch = (h.child l).0 in
        let b = r.accepted.below c ch.low ch.high in
        record {
          within = ch.high;
          small = omega (arith, ch.high, r.accepted.few);
          written = omega (arith, ch.high, h.long);
          few = omega (arith, (h.child l).1, ch.high, r.accepted.few);
          falls = omega (arith, ch.high, ch.of);
        }

    pub turn-ready : Ready p a m c
    turn-ready = let r = h.begun.ready in record { accepted = r.accepted; answers = r.answers; marks = h.long; node = (h.child l).0.high }

    pub turn-less : (c' : ℕ) → c' ≡ get_or s c 0 → left (size p) c' < left (size p) c
    turn-less c' q = rw (q, ne_eqb c 0 l) (cases (decided (eqb (get_or s c 0) 0))
        (λ g. rw g (omega (arith, turn-bounds.within)))
        (λ g. rw g (omega (arith, (next-child h.begun.links v c (h.child l).0 (eqb-false (get_or s c 0) 0 g)).1, turn-bounds.within))))

    -- the child ended as o and left the marks m', and its mark is y
    module _ (o : ℕ) (m' : List ℕ) (long : length m' ≡ length m) (d : Settles p a m c m' o) (y : ℕ) (mark : y ≡ child_mark k x (tally_of n) (outcome_of o)) where
      abbrev t' : Tally
      t' = note x h.tally (outcome_of o)

      mark-is : y ≡ child_mark k x h.tally (outcome_of o)
      mark-is = mark ∙ mark-place k x n h.tally (outcome_of o) h.places

      met : (fuel : ℕ) → size p ≤ v + suc fuel → settle p a (suc fuel) v m₀
          ≡ close k x (walk (settle p a fuel) k x (led_to p v (get_or s c 0)) (walked t' (set m' c y)))
      unfolding meet meet_by child_settled
      met fuel g = h.so-far fuel g ∙ ap (close k x) (walk-on h.begun fuel c (walked h.tally m) l (h.child l).0
          ∙ ap (walk (settle p a fuel) k x (led_to p v (get_or s c 0))) (rw ((h.child l).2, d.by fuel (omega (arith, turn-bounds.falls)), mark-is)))

      met-over : Over k x t' → (fuel : ℕ) → size p ≤ v + suc fuel → settle p a (suc fuel) v m₀ ≡ record { outcome = end_of k x t'; marks = set m' c y }
      met-over over fuel g = met fuel g ∙ walk-over (settle p a fuel) k x t' over (led_to p v (get_or s c 0)) (set m' c y)

      pub turn-fault : 4 < o → Settles p a m₀ v (set m' c y) o
      turn-fault g = record { by = go; least = d.least }
        where
          go : (fuel : ℕ) → size p ≤ v + fuel → settle p a fuel v m₀ ≡ record { outcome = outcome_of o; marks = set m' c y }
          go zero z = absurd (omega (arith, h.begun.ready.node))
          go (suc fuel) z = met-over (over-fault k x h.tally o g) fuel z ∙ rw (fault-ends k x h.tally o g)

      module _ (w : o ≤ 4) (st e' : ℕ) (start : st ≡ so_far k nothing) (come : e' ≡ comes_to st e y) where
        seen' : Seen k t' e'
        seen' = rw come (seen_more k x h.tally e o st y h.seen d.least w start mark-is)

        pub turn-down : e' ≡ 5 → k ≡ xor
        turn-down q = seen-down k t' e' seen' q

        module _ (b : Bool) (told : b ≡ done_by k x o) where
          pub turn-done : b ≡ true → (z : ℕ) → z ≡ ends_as k x e' → Settles p a m₀ v (set m' c y) z
          turn-done q z g = ended h.begun t' (set m' c y) e' z seen' g (met-over (over_done x h.tally k o d.least w (sym told ∙ q)))

          pub turn_on : b ≡ false → (c' : ℕ) → c' ≡ get_or s c 0 → Walking p a f s m₀ v k x (set m' c y) e' (n + 1) c'
          turn_on q c' g = rw g (record {
            begun = h.begun;
            tally = t';
            seen = seen';
            places = λ u. ap (λ q. q + 1) (h.places u) ∙ (add-one h.tally.places ∙ sym (note-places x h.tally (outcome_of o)));
            child = λ u. ((next-child h.begun.links v c (h.child l).0 u).0, omega (arith, (next-child h.begun.links v c (h.child l).0 u).1, (h.child l).1), goes_on x h.tally k o d.least w (sym told ∙ q) h.begun.right (h.child l).2);
            long = length-set m' c y ∙ long ∙ h.long;
            so-far = met;
          })
