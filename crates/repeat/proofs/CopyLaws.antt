-- A tree written again and again, side by side: a turn of the loop at a time. Assumes nothing.
use mathlib.Core.Path.{◌≡◌, subst}
use mathlib.Core.List.{List}
use Prim.Native.Nat.{ℕ, suc, ◌+◌, ◌-◌, ◌≤◌, ◌<◌}
use native.Mathlib.Omega.{arith}
use lib.ListN.{length}
use Rattle.plan.specs.Plan.{kind_byte}
use Rattle.trees.specs.Tree.{tree, trees_below, tree_at}
use Rattle.template.specs.Repeat.{beside, times}
use Rattle.placing.specs.Place.{Placeable, Placed}
use Rattle.placing.proofs.PlaceLaws.{Placing, placing-all, placing-room, placing-turn, placing-none}
use Rattle.repeat.specs.Copies.{Copyable, Copied}

-- i of the k trees are written, and the next new number is w
pub record Copying (p : List ℕ) (c u n k : ℕ) (b₀ b : List ℕ) (w i : ℕ) : Type 0 where
  pub within : i ≤ k
  pub so-far : Placing u n (times k (tree_at p c)) b₀ b w (times (k - i) (tree_at p c))

pub copy-first : (p : List ℕ) (c u n k : ℕ) (b : List ℕ) → Copying p c u n k b b n 0
copy-first p c u n k b = record { within = omega arith; so-far = let z : k ≡ k - 0 = omega arith in subst (λ j. Placing u n (times k (tree_at p c)) b b n (times j (tree_at p c))) z (placing-all u n (times k (tree_at p c)) b) }

module _ {p first next out : List ℕ} {c u n k : ℕ} {b : List ℕ} {w i : ℕ} (ready : Copyable p first next out c n k) (h : Copying p c u n k out b w i) where
  pub copy-long : length b ≡ length out
  copy-long = h.so-far.left.long

  pub copy-end : k ≤ i → Copied p c u n k out b w
  unfolding times
  copy-end l =
      let z : k - i ≡ 0 = omega arith in
      let e = placing-none (subst (λ j. Placing u n (times k (tree_at p c)) out b w (times j (tree_at p c))) z h.so-far) in
      record { behind = e.0; put = e.1 }

  module _ (l : i < k) where
    rest : Placing u n (times k (tree_at p c)) out b w (tree (kind_byte p c) (trees_below p c) (times (k - (i + 1)) (tree_at p c)))
    unfolding times beside
    rest = let z : k - i ≡ suc (k - (i + 1)) = omega arith in
        subst (λ j. Placing u n (times k (tree_at p c)) out b w (times j (tree_at p c))) z h.so-far

    pub copy-ready : Placeable p first next b c w (trees_below p c)
    copy-ready = record {
      accepted = ready.accepted;
      linked = ready.linked;
      node = ready.node;
      room = omega (arith, placing-room rest, ready.room, copy-long);
      few = omega (arith, copy-long, ready.few);
    }

    pub copy-turn : (b' : List ℕ) (w' : ℕ) → Placed p c u w (trees_below p c) b b' w' → Copying p c u n k out b' w' (i + 1)
    copy-turn b' w' d = record { within = omega arith; so-far = placing-turn rest b' w' d.behind d.put }
