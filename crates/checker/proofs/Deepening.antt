-- The loop that finds depths: each byte of `out` below v is its node's depth. Assumes nothing.
use mathlib.Core.Path.{◌≡◌, refl, sym, ◌∙◌, ap}
use mathlib.Core.Bool.{Bool, true, false, cond}
use mathlib.Core.List.{List}
use Prim.Native.Nat.{ℕ, zero, suc, ◌+◌, ◌≤◌, ◌<◌}
use native.Mathlib.Nat.{le_antisymm}
use native.Mathlib.Omega.{arith}
use lib.Dec.{eqb, leb}
use lib.ListN.{length, get_or, set, length-set}
use lib.Seq.{get_or-set_same, get_or-set_other}
use borrow.Author.Tests.{eqb-true, eqb-false}
use Rattle.lists.specs.Seq.{all_below, table}
use Rattle.lists.proofs.Logic.{cases, decided}
use Rattle.lists.proofs.Table.{table-by}
use Rattle.plan.specs.Plan.{size, parent, depth_within, depth}
use Rattle.plan.specs.Check.{depth_ok, Ordered}
use Rattle.plan.proofs.PlanLaws.{depth-root, depth-child}
use Rattle.checker.proofs.TestLaws.{Turn, turn_below}

pub record Deepened (p out : List ℕ) (v : ℕ) : Type 0 where
  pub long : length out ≡ size p
  pub first : 0 < v
  pub within : v ≤ size p
  pub each : (u : ℕ) → u < v → get_or out u 0 ≡ depth p u

pub deep-root : (p out : List ℕ) → Ordered p → length out ≡ size p → Deepened p (set out 0 1) 1
deep-root p out h e = record {
  long = length-set out 0 1 ∙ e;
  first = omega arith;
  within = omega (arith, h.some);
  each = λ u l. let q : u ≡ 0 = omega arith in rw q (get_or-set_same out 0 1 0 (omega (arith, h.some)) ∙ sym (depth-root p));
}

pub deep-root-told : (p : List ℕ) → true ≡ all_below (depth_ok p) 1
unfolding all_below depth_ok depth depth_within
deep-root-told p = refl

pub deep_room : {p out : List ℕ} {v u : ℕ} → Turn (Deepened p out v) p v u → u < length out
deep_room t = let b = turn_below t in omega (arith, t.so-far.long, t.within)

depth_low : (f : ℕ) (p : List ℕ) (v : ℕ) → depth_within f p v ≤ f
unfolding depth_within
depth_low zero p v = omega arith
depth_low (suc f) p v = go (eqb v 0) (depth_low f p (parent p v))
  where
    go : (b : Bool) → depth_within f p (parent p v) ≤ f → cond b 1 (suc (depth_within f p (parent p v))) ≤ suc f
    go true h = omega arith
    go false h = omega arith

depth-least : (p : List ℕ) (v : ℕ) → depth p v ≤ suc v
unfolding depth
depth-least p v = depth_low (suc v) p v

-- a depth is at most the number of nodes, and so fits a byte
pub deep-fits : {p out : List ℕ} {v u : ℕ} → Turn (Deepened p out v) p v u → get_or out u 0 + 1 ≤ 255
deep-fits {p} {out} {v} {u} t =
    let b = turn_below t in
    let l = t.within in
    omega (arith, t.so-far.each u b, depth-least p u, t.ordered.few)

pub deep-here : {p out : List ℕ} {v u : ℕ} → Turn (Deepened p out v) p v u → get_or out u 0 + 1 ≡ depth p v
deep-here {p} {out} {v} {u} t = omega (arith, t.so-far.each u (turn_below t), ap (depth p) t.up, depth-child p t.ordered v t.first t.within)

pub deep-told : {p out : List ℕ} {v u : ℕ} → Turn (Deepened p out v) p v u → leb (get_or out u 0 + 1) 32 ≡ depth_ok p v
unfolding depth_ok
deep-told t = ap (λ d. leb d 32) (deep-here t)

pub deep-turn : {p out : List ℕ} {v u : ℕ} → Turn (Deepened p out v) p v u → Deepened p (set out v (get_or out u 0 + 1)) (v + 1)
deep-turn {p} {out} {v} {u} t = record {
  long = length-set out v _ ∙ t.so-far.long;
  first = omega arith;
  within = omega (arith, t.within);
  each = each;
}
  where
    each : (w : ℕ) → w < v + 1 → get_or (set out v (get_or out u 0 + 1)) w 0 ≡ depth p w
    each w m = cases (decided (eqb w v))
        (λ e. let q = eqb-true w v e in rw q (get_or-set_same out v _ 0 (omega (arith, t.so-far.long, t.within)) ∙ deep-here t))
        (λ e. let q = eqb-false w v e in get_or-set_other out v w _ 0 q ∙ t.so-far.each w (omega arith))

pub deep-done : (p out : List ℕ) (v : ℕ) → Deepened p out v → size p ≤ v → out ≡ table (depth p) (size p)
deep-done p out v i l =
    let e : v ≡ size p = le_antisymm i.within l in
    table-by (depth p) (size p) out i.long (λ u m. i.each u (omega arith))
