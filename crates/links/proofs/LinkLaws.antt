-- Links between children: whom a link leads to, and the loop that makes the links, from the last node down. Assumes nothing.
use mathlib.Core.Path.{◌≡◌, refl, sym, ◌∙◌, ap}
use mathlib.Core.Bool.{true, false}
use mathlib.Core.List.{List, [], ◌∷◌}
use Prim.Native.Nat.{ℕ, zero, suc, pred, ◌+◌, ◌-◌, ◌/◌, ◌≤◌, ◌<◌}
use native.Mathlib.Omega.{arith}
use lib.Dec.{eqb, ltb}
use lib.ListN.{length, get_or, set, replicate, length-set, length-replicate, get_or-replicate}
use lib.Seq.{get_or-set_same, get_or-set_other}
use borrow.Author.Tests.{eqb-true, eqb-false, ne_eqb, ltb-true, ltb-false}
use Rattle.lists.specs.Seq.{up_from}
use Rattle.lists.specs.Member.{In, here}
use Rattle.lists.proofs.Logic.{cases, decided}
use Rattle.lists.proofs.Members.{keep-in, up_in}
use Rattle.lists.proofs.Keep.{keep-yes, keep-no, keep_out}
use Rattle.plan.specs.Plan.{size, parent, children_below, children}
use Rattle.plan.specs.Check.{Accepted}
use Rattle.plan.proofs.PlanLaws.{Child}
use Rattle.links.specs.Links.{children_from, led_to, Linked}

module _ (p : List ℕ) (v : ℕ) where
  pub from_all : children p v ≡ children_from p v 1
  unfolding children children_below children_from
  from_all = let e : pred (size p) ≡ size p - 1 = omega arith in rw e

  pub from_end : children_from p v (size p) ≡ []
  unfolding children_from
  from_end = keep_out (λ d. eqb (parent p d) v) (size p) (size p) (omega arith)

  pub from-yes : (c : ℕ) → c < size p → eqb (parent p c) v ≡ true → children_from p v c ≡ c ∷ children_from p v (c + 1)
  unfolding children_from
  from-yes c l e = keep-yes (λ d. eqb (parent p d) v) c (size p) l e

  from-no : (c : ℕ) → c < size p → eqb (parent p c) v ≡ false → children_from p v c ≡ children_from p v (c + 1)
  unfolding children_from
  from-no c l e = keep-no (λ d. eqb (parent p d) v) c (size p) l e

  -- none of the nodes from a up to b is a child
  pub from-skip : (f a b : ℕ) → b ≤ f + a → a ≤ b → b ≤ size p → ((c : ℕ) → a ≤ c → c < b → parent p c ≡ v → ⊥) → children_from p v a ≡ children_from p v b
  from-skip zero a b i l m h = let e : a ≡ b = omega arith in rw e
  from-skip (suc f) a b i l m h = cases (decided (ltb a b))
      (λ z. let lt = ltb-true a b z in
      from-no a (omega arith) (ne_eqb (parent p a) v (h a (omega arith) lt)) ∙ from-skip f (a + 1) b (omega arith) (omega arith) m (λ c j k. h c (omega arith) k))
      (λ z. let ge = ltb-false a b z in let e : a ≡ b = omega arith in rw e)

  pub led-none : (c : ℕ) → c ≡ 0 → led_to p v c ≡ []
  unfolding led_to
  led-none c e = rw e

  pub led-some : (c : ℕ) → (c ≡ 0 → ⊥) → led_to p v c ≡ c ∷ children_from p v (c + 1)
  unfolding led_to
  led-some c n = rw (ne_eqb c 0 n)

  -- whom a link leads to is a child, from d on
  pub led-child : (d c : ℕ) → 0 < d → d ≤ size p → children_from p v d ≡ led_to p v c → (c ≡ 0 → ⊥) → Child p v c × (d ≤ c)
  unfolding children_from
  led-child d c l m e n =
      let i : In c (children_from p v d) = rw (e ∙ led-some c n) (here refl) in
      let k = keep-in (λ d. eqb (parent p d) v) (up_from d (size p - d)) i in
      let b = up_in d (size p - d) k.0 in
      (record { low = omega arith; high = omega arith; of = eqb-true (parent p c) v k.1 }, omega arith)

-- a walk by the links
module _ {p first next : List ℕ} (links : Linked p first next) where
  pub first-child : (v : ℕ) → v < size p → (get_or first v 0 ≡ 0 → ⊥) → Child p v (get_or first v 0) × (1 ≤ get_or first v 0)
  first-child v l n = led-child p v 1 (get_or first v 0) (omega arith) (omega arith) (links.child v l) n

  pub next-children : (v c : ℕ) → Child p v c → children_from p v (c + 1) ≡ led_to p v (get_or next c 0)
  next-children v c h = rw h.of at (links.sibling c h.low h.high)

  pub next-child : (v c : ℕ) → Child p v c → (get_or next c 0 ≡ 0 → ⊥) → Child p v (get_or next c 0) × (c + 1 ≤ get_or next c 0)
  next-child v c h n = led-child p v (c + 1) (get_or next c 0) (omega arith) (omega (arith, h.high)) (next-children v c h) n

  -- all children, from the first on; and one child on
  pub led-all : (v : ℕ) → v < size p → children p v ≡ led_to p v (get_or first v 0)
  led-all v l = from_all p v ∙ links.child v l

  pub led_on : (v c : ℕ) → (c ≡ 0 → ⊥) → Child p v c → led_to p v c ≡ c ∷ led_to p v (get_or next c 0)
  led_on v c n h = led-some p v c n ∙ ap (λ cs. c ∷ cs) (next-children v c h)

-- the nodes from v on are linked
pub record Linking (p first next : List ℕ) (v : ℕ) : Type 0 where
  pub firsts : length first ≡ 160
  pub nexts : length next ≡ 160
  pub low : 0 < v
  pub high : v ≤ size p
  pub child : (w : ℕ) → w < size p → children_from p w v ≡ led_to p w (get_or first w 0)
  pub sibling : (c : ℕ) → v ≤ c → c < size p → children_from p (parent p c) (c + 1) ≡ led_to p (parent p c) (get_or next c 0)

pub link-none : (p first next : List ℕ) → Accepted p → first ≡ replicate 160 0 → next ≡ replicate 160 0 → Linking p first next (length p / 2)
unfolding size
link-none p first next ok e f = record {
  firsts = ap length e ∙ length-replicate {A = ℕ} 160 0;
  nexts = ap length f ∙ length-replicate {A = ℕ} 160 0;
  low = ok.some;
  high = omega arith;
  child = λ w l. from_end p w ∙ sym (led-none p w (get_or first w 0) (rw (e, get_or-replicate {A = ℕ} 160 w 0 0 (omega (arith, ok.few)))));
  sibling = λ c l m. absurd (omega arith);
}

-- the loop stands above v, whose parent is u
pub record LinkTurn (p first next : List ℕ) (v u : ℕ) : Type 0 where
  pub accepted : Accepted p
  pub so-far : Linking p first next (v + 1)
  pub later : 0 < v
  pub up : u ≡ parent p v

module _ {p first next : List ℕ} {v u : ℕ} (t : LinkTurn p first next v u) where
  pub link-below : u < v
  link-below = let b = t.accepted.below v t.later (omega (arith, t.so-far.high)) in omega (arith, t.up)

  link-within : v < size p
  link-within = omega (arith, t.so-far.high)

  pub link-small : v < 160
  link-small = omega (arith, link-within, t.accepted.few)

  pub link-turn : Linking p (set first u v) (set next v (get_or first u 0)) v
  link-turn = record {
    firsts = length-set first u v ∙ t.so-far.firsts;
    nexts = length-set next v _ ∙ t.so-far.nexts;
    low = t.later;
    high = omega (arith, link-within);
    child = child;
    sibling = sibling;
  }
    where
      child : (w : ℕ) → w < size p → children_from p w v ≡ led_to p w (get_or (set first u v) w 0)
      child w l = cases (decided (eqb (parent p v) w))
          (λ e. let q : u ≡ w = t.up ∙ eqb-true (parent p v) w e in
          rw (from-yes p w v link-within e, ← q, get_or-set_same first u v 0 (omega (arith, link-below, link-small, t.so-far.firsts))) (sym (led-some p u v (λ z. omega (arith, t.later)))))
          (λ e. rw (from-no p w v link-within e, get_or-set_other first u w v 0 (λ q. eqb-false (parent p v) w e (sym (q ∙ t.up)))) (t.so-far.child w l))

      sibling : (c : ℕ) → v ≤ c → c < size p → children_from p (parent p c) (c + 1) ≡ led_to p (parent p c) (get_or (set next v (get_or first u 0)) c 0)
      sibling c l m = cases (decided (eqb c v))
          (λ e. let q = eqb-true c v e in
          rw (q, get_or-set_same next v (get_or first u 0) 0 (omega (arith, link-small, t.so-far.nexts)), ← t.up) (t.so-far.child u (omega (arith, link-below, link-within))))
          (λ e. let q = eqb-false c v e in
          rw (get_or-set_other next v c (get_or first u 0) 0 q) (t.so-far.sibling c (omega arith) m))

pub link-done : (p first next : List ℕ) (v : ℕ) → Linking p first next v → v ≤ 1 → Linked p first next
link-done p first next v h l =
    let e : v ≡ 1 = omega (arith, h.low) in
    record {
      child = λ w m. ap (children_from p w) (sym e) ∙ h.child w m;
      sibling = λ c k m. h.sibling c (omega arith) m;
    }
