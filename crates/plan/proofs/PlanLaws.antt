-- Laws of specs/Plan.antt: who a node's children are and in which order, and depths. Assumes nothing.
use mathlib.Core.Path.{◌≡◌, refl, ap}
use mathlib.Core.Bool.{cond}
use mathlib.Core.List.{List, [], ◌∷◌, ◌++◌}
use Prim.Native.Nat.{ℕ, zero, suc, pred, ◌+◌, ◌*◌, ◌<◌}
use lib.ListN.{length}
use lib.Dec.{eqb}
use borrow.Author.Tests.{eqb-true, eqb-false, eq-eqb, ne_eqb}
use native.Mathlib.Omega.{arith}
use Rattle.lists.specs.Seq.{keep, up_from}
use Rattle.lists.specs.Member.{In, Rising}
use Rattle.lists.proofs.Logic.{cases, decided}
use Rattle.lists.proofs.Members.{keep-in, in-keep, in-up, up_in, rising-keep, rising-up}
use Rattle.lists.proofs.Keep.{keep_append}
use Rattle.lists.proofs.Table.{up_suc}
use Rattle.plan.specs.Plan.{kind_of, size, kind_byte, kind, parent, children_below, children, depth_within, depth}
use Rattle.plan.specs.Check.{Ordered}

pub rising-children : (p : List ℕ) (u : ℕ) → Rising 0 (children p u)
unfolding children children_below
rising-children p u = rising-keep (λ c. eqb (parent p c) u) (rising-up 0 1 (pred (size p)) (omega arith))

-- c is a child of u
pub record Child (p : List ℕ) (u c : ℕ) : Type 0 where
  pub low : 0 < c
  pub high : c < size p
  pub of : parent p c ≡ u

pub child-of : (p : List ℕ) (u : ℕ) {c : ℕ} → In c (children p u) → Child p u c
unfolding children children_below
child-of p u {c} i =
    let k = keep-in (λ c. eqb (parent p c) u) (up_from 1 (pred (size p))) i in
    let b = up_in 1 (pred (size p)) k.0 in
    record { low = omega arith; high = omega arith; of = eqb-true (parent p c) u k.1 }

pub child-in : (p : List ℕ) (u : ℕ) {c : ℕ} → Child p u c → In c (children p u)
unfolding children children_below
child-in p u {c} h = in-keep (λ c. eqb (parent p c) u) (in-up 1 (pred (size p)) c (omega arith) (omega arith)) (eq-eqb (parent p c) u h.of)

-- one node more
pub children-suc : (p : List ℕ) (v u : ℕ) → 0 < v → children_below p (v + 1) u ≡ children_below p v u ++ cond (eqb (parent p v) u) (v ∷ []) []
unfolding children_below keep
children-suc p v u l =
    let e : pred (v + 1) ≡ suc (pred v) = omega arith in
    let f : 1 + pred v ≡ v = omega arith in
    rw (e, up_suc 1 (pred v), f) (keep_append (λ c. eqb (parent p c) u) (up_from 1 (pred v)) (v ∷ []))

-- whole nodes
pub size-half : (p : List ℕ) (n : ℕ) → length p ≡ 2 * n → size p ≡ n
unfolding size
size-half p n e = omega arith

-- the kind is read off the kind byte
pub kind-byte : (p : List ℕ) (v : ℕ) → kind p v ≡ kind_of (kind_byte p v)
unfolding kind
kind-byte p v = refl

pub depth-root : (p : List ℕ) → depth p 0 ≡ 1
unfolding depth depth_within
depth-root p = refl

module _ (p : List ℕ) (ordered : Ordered p) where
  -- more steps up than a node's number change nothing
  depth_same : (f g v : ℕ) → v < size p → v < f → v < g → depth_within f p v ≡ depth_within g p v
  unfolding depth_within
  depth_same zero g v s l m = absurd (omega arith)
  depth_same (suc f) zero v s l m = absurd (omega arith)
  depth_same (suc f) (suc g) v s l m = cases (decided (eqb v 0)) (λ e. rw e)
      (λ e. let b = ordered.below v (omega (arith, eqb-false v 0 e)) s in
      rw e (ap suc (depth_same f g (parent p v) (omega arith) (omega arith) (omega arith))))

  pub depth-child : (v : ℕ) → 0 < v → v < size p → depth p v ≡ suc (depth p (parent p v))
  unfolding depth depth_within
  depth-child v l s =
      let b = ordered.below v l s in
      rw (ne_eqb v 0 (λ e. omega arith)) (ap suc (depth_same v (suc (parent p v)) (parent p v) (omega arith) (omega arith) (omega arith)))
