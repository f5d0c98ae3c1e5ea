-- A plan's depth form, written line by line: a depth is one more than the parent's, which is there already. Assumes nothing.
use mathlib.Core.Path.{◌≡◌, sym, ◌∙◌, ap}
use mathlib.Core.List.{List}
use Prim.Native.Nat.{ℕ, ◌+◌, ◌*◌, ◌≤◌, ◌<◌}
use native.Mathlib.Omega.{arith}
use lib.ListN.{length, get_or}
use Rattle.plan.specs.Plan.{size, kind_byte, parent, depth}
use Rattle.plan.specs.Check.{Accepted}
use Rattle.plan.proofs.PlanLaws.{depth-root, depth-child}
use Rattle.plan.proofs.AcceptedLaws.{accepted-ordered}
use Rattle.depth_form.specs.Form.{depth_form}
use Rattle.placing.proofs.PlaceLaws.{with_line}
use Rattle.convert.proofs.LineLaws.{Writing, write-none, write-turn, write_done}

-- the lines below v are the depth form's
pub record Deepening (p out : List ℕ) (v : ℕ) : Type 0 where
  pub low : 0 < v
  pub lines : Writing (kind_byte p) (depth p) (size p) out v

pub deep_room : {p : List ℕ} → Accepted p → (out : List ℕ) → length out ≡ length p → 2 * 0 + 1 < length out
deep_room ok out e = omega (arith, ok.even, ok.some)

pub deep-root : {p : List ℕ} → Accepted p → (out : List ℕ) → length out ≡ length p → (k : ℕ) → k ≡ kind_byte p 0 → Deepening p (with_line out 0 k 1) 1
deep-root {p} ok out e k q = record { low = omega arith; lines = write-turn (write-none out (e ∙ ok.even)) ok.some k 1 q (sym (depth-root p)) }

-- the loop stands at v, whose parent is u
pub record DeepTurn (p out : List ℕ) (v u : ℕ) : Type 0 where
  pub accepted : Accepted p
  pub so-far : Deepening p out v
  pub within : v < size p
  pub above : u ≡ parent p v

module _ {p out : List ℕ} {v u : ℕ} (t : DeepTurn p out v u) where
  deep-below : u < v
  deep-below = let b = t.accepted.below v t.so-far.low t.within in omega (arith, t.above)

  pub deep-low : u < 160
  deep-low = omega (arith, deep-below, t.within, t.accepted.few)

  pub deep-read : 2 * u + 1 < length out
  deep-read = omega (arith, deep-below, t.within, t.so-far.lines.long)

  deep-parent : get_or out (2 * u + 1) 0 ≡ depth p u
  unfolding parent
  deep-parent = t.so-far.lines.seconds u deep-below

  pub deep-small : get_or out (2 * u + 1) 0 + 1 < 256
  deep-small = let b = deep-below in let s = t.accepted.shallow u (omega (arith, t.within)) in omega (arith, deep-parent)

  pub deep-turn : (k : ℕ) → k ≡ kind_byte p v → Deepening p (with_line out v k (get_or out (2 * u + 1) 0 + 1)) (v + 1)
  deep-turn k q = record {
    low = omega arith;
    lines = write-turn t.so-far.lines t.within k (get_or out (2 * u + 1) 0 + 1) q
        (let e = depth-child p (accepted-ordered p t.accepted) v t.so-far.low t.within in
        let f : depth p u ≡ depth p (parent p v) = ap (depth p) t.above in
        omega (arith, deep-parent));
  }

pub deep-done : {p out : List ℕ} {v : ℕ} → Deepening p out v → size p ≤ v → out ≡ depth_form p
unfolding depth_form
deep-done h l = write_done h.lines l
