-- At the marked node the copies of its child's tree are what is below it; a node without children is not marked. Assumes nothing.
use mathlib.Core.Path.{◌≡◌, sym, ◌∙◌, ap}
use mathlib.Core.List.{List, []}
use Prim.Native.Nat.{ℕ, suc, ◌+◌, ◌<◌}
use native.Mathlib.Omega.{arith}
use lib.ListN.{length, get_or}
use Rattle.lists.proofs.PutLaws.{put-length}
use Rattle.plan.specs.Plan.{size, kind_byte, children}
use Rattle.plan.proofs.AcceptedLaws.{accepted-ordered}
use Rattle.trees.specs.Tree.{none, trees_of, tree_at, node_count}
use Rattle.template.specs.Repeat.{times, repeated_below}
use Rattle.template.specs.Claim.{Template}
use Rattle.template.proofs.StepLaws.{step-marked, step_other}
use Rattle.placing.specs.Place.{Placeable, Placed}
use Rattle.placing.proofs.PlaceLaws.{with_line, line-length, placed-tree}
use Rattle.repeat.specs.Copies.{Copyable, Copied}
use Rattle.repeat.proofs.ChildLaws.{only-node, only_below}

module _ {p : List ℕ} {m : ℕ} (h : Template p m) (k : ℕ) where
  pub bare-repeated : (c : ℕ) → c < size p → children p c ≡ [] → repeated_below p m k c ≡ none
  unfolding trees_of
  bare-repeated c l e =
      step_other p (accepted-ordered p h.accepted) m k c l (λ z. let n : length (children p m) ≡ 0 = ap length (ap (children p) (sym z) ∙ e) in omega (arith, h.one))
      ∙ rw e

  module _ {first next out : List ℕ} {v n : ℕ} (u : ℕ) (ready : Placeable p first next out v n (repeated_below p m k v)) (marked : v ≡ m) (c : ℕ) (e : c ≡ get_or first v 0)
      (b : List ℕ) (x : ℕ) (told : x ≡ kind_byte p v) (begun : b ≡ with_line out n x u) where
    first_of : c ≡ get_or first m 0
    first_of = rw (← marked) e

    below : repeated_below p m k v ≡ times k (tree_at p c)
    below = ap (repeated_below p m k) marked ∙ step-marked p (accepted-ordered p h.accepted) m k h.node ∙ ap (times k) (only_below h ready.linked c first_of)

    long : length b ≡ length out
    long = ap length begun ∙ line-length out n x u

    pub copies-ready : Copyable p first next b c (n + 1) k
    copies-ready = record {
      accepted = h.accepted;
      linked = ready.linked;
      node = only-node h ready.linked c first_of;
      room = omega (arith, ready.room, long, ap node_count below);
      few = omega (arith, long, ready.few);
    }

    pub copies-long : (b' : List ℕ) (r : ℕ) → Copied p c n (n + 1) k b b' r → length b' ≡ length out
    copies-long b' r d = put-length d.put ∙ long

    pub copies-placed : (b' : List ℕ) (r : ℕ) → Copied p c n (n + 1) k b b' r → Placed p v u n (repeated_below p m k v) out b' r
    copies-placed b' r d =
        let z : n + 1 ≡ suc n = omega arith in
        record {
          behind = omega (arith, d.behind, ap node_count below);
          put = placed-tree (kind_byte p v) u n r (repeated_below p m k v) out b' (rw (below, ← told, ← begun) (rw z at d.put));
        }
