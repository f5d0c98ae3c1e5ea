-- A node and the trees below it, written tree by tree: a turn of the loop at a time. Assumes nothing.
use mathlib.Core.Path.{◌≡◌, refl, sym, ◌∙◌, ap, subst}
use mathlib.Core.List.{List, [], ◌∷◌, ◌++◌, append-nil}
use Prim.Native.Nat.{ℕ, suc, ◌+◌, ◌*◌, ◌-◌, ◌≤◌, ◌<◌}
use native.Mathlib.Omega.{arith}
use lib.ListN.{length, get_or, set, drop, length-set}
use Rattle.lists.specs.Put.{Put}
use Rattle.lists.proofs.PutLaws.{Left, left-all, left-none, left-put, put_two, put-append, put_front_lem}
use Rattle.plan.specs.Plan.{size, kind_byte, children}
use Rattle.plan.specs.Check.{Accepted}
use Rattle.plan.proofs.PlanLaws.{Child}
use Rattle.plan.proofs.AcceptedLaws.{accepted-ordered}
use Rattle.links.specs.Links.{led_to}
use Rattle.links.proofs.LinkLaws.{led-none, first-child, next-child, led-all, led_on}
use Rattle.trees.specs.Tree.{Forest, none, tree, trees_of, trees_below, node_count}
use Rattle.trees.specs.Numbering.{written, plan_of}
use Rattle.trees.proofs.TreeLaws.{trees-step}
use Rattle.trees.proofs.LaidLaws.{written-length}
use Rattle.placing.specs.Place.{Placeable, Placed}

-- out with the bytes x and y in line v
abbrev pub with_line : List ℕ → ℕ → ℕ → ℕ → List ℕ
with_line out v x y = set (set out (2 * v) x) (2 * v + 1) y

pub line-length : (out : List ℕ) (v x y : ℕ) → length (with_line out v x y) ≡ length out
line-length out v x y = length-set (set out (2 * v) x) (2 * v + 1) y ∙ length-set out (2 * v) x

-- one tree, and those beside it
written-beside : (k : ℕ) (b t : Forest) (u n : ℕ) → written (tree k b t) u n ≡ written (tree k b none) u n ++ written t u (suc n + node_count b)
unfolding written
written-beside k b t u n = ap (λ l. k ∷ u ∷ (l ++ written t u (suc n + node_count b))) (sym (append-nil (written b n (suc n))))

-- trees t below u, from the number n on, over b₀: those in rest are still to be written, from the number w on
pub record Placing (u n : ℕ) (t : Forest) (b₀ b : List ℕ) (w : ℕ) (rest : Forest) : Type 0 where
  pub place : w + node_count rest ≡ n + node_count t
  pub left : Left (written rest u w) (written t u n) b₀ (2 * n) b (2 * w)

pub placing-all : (u n : ℕ) (t : Forest) (b : List ℕ) → Placing u n t b b n t
placing-all u n t b = record { place = refl; left = left-all (written t u n) b (2 * n) }

module _ {u n : ℕ} {t : Forest} {b₀ b : List ℕ} {w k : ℕ} {below rest : Forest} (h : Placing u n t b₀ b w (tree k below rest)) where
  -- there is room for the first of them
  pub placing-room : suc w + node_count below ≤ n + node_count t
  unfolding node_count
  placing-room = omega (arith, h.place)

  pub placing-turn : (b' : List ℕ) (w' : ℕ) → w' ≡ suc w + node_count below → Put (written (tree k below none) u w) b (2 * w) b' (2 * w') → Placing u n t b₀ b' w' rest
  unfolding node_count
  placing-turn b' w' e put = record {
    place = omega (arith, h.place);
    left = left-put (written (tree k below none) u w) (written rest u w') (rw (written-beside k below rest u w, ← e) at h.left) put;
  }

pub placing-none : {u n : ℕ} {t : Forest} {b₀ b : List ℕ} {w : ℕ} → Placing u n t b₀ b w none → (w ≡ n + node_count t) × Put (written t u n) b₀ (2 * n) b (2 * w)
unfolding node_count written
placing-none h = (omega (arith, h.place), left-none h.left)

-- a node's own two bytes, then what is below it
pub placed-tree : (k u n w : ℕ) (below : Forest) (b b' : List ℕ) →
    Put (written below n (suc n)) (with_line b n k u) (2 * suc n) b' (2 * w) → Put (written (tree k below none) u n) b (2 * n) b' (2 * w)
unfolding written
placed-tree k u n w below b b' h =
    rw (append-nil (written below n (suc n)))
    (put-append (k ∷ u ∷ []) (written below n (suc n)) b (2 * n) (put_two k u b (2 * n))
    (rw (let z : 2 * suc n ≡ 2 * n + 2 = omega arith in z) at h))

module _ {p first next out : List ℕ} {v n : ℕ} {b : Forest} (r : Placeable p first next out v n b) where
  pub place-small : n < 160
  place-small = omega (arith, r.room, r.few)

  pub place-node : v < 160
  place-node = omega (arith, r.node, r.accepted.few)

  pub place-room : 2 * n + 1 < length out
  place-room = omega (arith, r.room)

-- trees by nodes: `below` has what is to be written below each node
module _ (p : List ℕ) (below : ℕ → Forest) where
  -- v's children before the link c are written, behind v itself: b₀ was there before the first of them, and the next new number is w
  pub record Walking (b₀ : List ℕ) (v n : ℕ) (b : List ℕ) (w c : ℕ) : Type 0 where
    pub child : (c ≡ 0 → ⊥) → Child p v c
    pub so-far : Placing n (suc n) (below v) b₀ b w (trees_of (kind_byte p) below (led_to p v c))

  -- the loop, with what was there before v's own two bytes
  pub record Turn (first next out b₀ : List ℕ) (v u n : ℕ) (b : List ℕ) (w c : ℕ) : Type 0 where
    pub ready : Placeable p first next out v n (below v)
    pub begun : b₀ ≡ with_line out n (kind_byte p v) u
    pub walk : Walking b₀ v n b w c

module _ {p : List ℕ} {below : ℕ → Forest} where
  pub walk_first : {first next out : List ℕ} {v n : ℕ} → Placeable p first next out v n (below v) → below v ≡ trees_of (kind_byte p) below (children p v) →
      (b : List ℕ) (w c : ℕ) → w ≡ suc n → c ≡ get_or first v 0 → Walking p below b v n b w c
  walk_first {v = v} {n = n} r step b w c e f = rw (e, f) (record {
    child = λ z. (first-child r.linked v r.node z).0;
    so-far = subst (λ t. Placing n (suc n) (below v) b b (suc n) t) (step ∙ ap (trees_of (kind_byte p) below) (led-all r.linked v r.node)) (placing-all n (suc n) (below v) b);
  })

  module _ {first next out b₀ : List ℕ} {v u n : ℕ} {b : List ℕ} {w c : ℕ} (t : Turn p below first next out b₀ v u n b w c) where
    pub walk-long : length b ≡ length out
    walk-long = t.walk.so-far.left.long ∙ ap length t.begun ∙ line-length out n (kind_byte p v) u

    pub walk_end : c ≡ 0 → Placed p v u n (below v) out b w
    unfolding trees_of
    walk_end z =
        let e = placing-none (subst (λ cs. Placing n (suc n) (below v) b₀ b w (trees_of (kind_byte p) below cs)) (led-none p v c z) t.walk.so-far) in
        record { behind = e.0; put = placed-tree (kind_byte p v) u n w (below v) out b (rw t.begun at e.1) }

    module _ (l : c ≡ 0 → ⊥) where
      rest : led_to p v c ≡ c ∷ led_to p v (get_or next c 0)
      rest = led_on t.ready.linked v c l (t.walk.child l)

      left_over : Placing n (suc n) (below v) b₀ b w (tree (kind_byte p c) (below c) (trees_of (kind_byte p) below (led_to p v (get_or next c 0))))
      unfolding trees_of
      left_over = subst (λ cs. Placing n (suc n) (below v) b₀ b w (trees_of (kind_byte p) below cs)) rest t.walk.so-far

      pub walk-within : c < 160
      walk-within = omega (arith, (t.walk.child l).high, t.ready.accepted.few)

      pub walk-ready : Placeable p first next b c w (below c)
      walk-ready = record {
        accepted = t.ready.accepted;
        linked = t.ready.linked;
        node = (t.walk.child l).high;
        room = omega (arith, placing-room left_over, t.ready.room, walk-long);
        few = omega (arith, walk-long, t.ready.few);
      }

      -- a child without children
      pub walk-bare : get_or first c 0 ≡ 0 → children p c ≡ []
      walk-bare z = led-all t.ready.linked c (t.walk.child l).high ∙ led-none p c (get_or first c 0) z

      -- it is its own two bytes
      pub walk-leaf : below c ≡ none → (k : ℕ) → k ≡ kind_byte p c → Placed p c n w (below c) b (with_line b w k n) (w + 1)
      unfolding written node_count
      walk-leaf z k e = record {
        behind = rw z (omega arith);
        put = rw (z, ← e, (let q : 2 * (w + 1) ≡ 2 * w + 2 = omega arith in q)) (put_two k n b (2 * w));
      }

      pub walk-falls : size p - c < size p - v
      walk-falls =
          let k = t.walk.child l in
          let d = t.ready.accepted.below c k.low k.high in
          omega (arith, k.of, k.high)

      pub walk-less : length (led_to p v (get_or next c 0)) < length (led_to p v c)
      walk-less = omega (arith, ap length rest)

      pub walk_turn : (b' : List ℕ) (w' : ℕ) → Placed p c n w (below c) b b' w' → Walking p below b₀ v n b' w' (get_or next c 0)
      walk_turn b' w' d = record {
        child = λ z. (next-child t.ready.linked v c (t.walk.child l) z).0;
        so-far = placing-turn left_over b' w' d.behind d.put;
      }

-- below a node without children there is nothing
pub bare-below : (p : List ℕ) → Accepted p → (v : ℕ) → v < size p → children p v ≡ [] → trees_below p v ≡ none
unfolding trees_of
bare-below p ok v l e = trees-step p (accepted-ordered p ok) v l ∙ rw e

-- the root, from 0 on: the plan of the tree in front, and the bytes behind it as they were
pub root-placed : {p out b : List ℕ} {below : Forest} {r : ℕ} → 2 * suc (node_count below) ≤ length out → Placed p 0 255 0 below out b r →
    b ≡ plan_of (tree (kind_byte p 0) below none) ++ drop (length (plan_of (tree (kind_byte p 0) below none))) out
unfolding node_count
root-placed {p} {out} {below = below} room h =
    h.put.held ∙ put_front_lem (plan_of (tree (kind_byte p 0) below none)) out (omega (arith, written-length (tree (kind_byte p 0) below none) 255 0))
