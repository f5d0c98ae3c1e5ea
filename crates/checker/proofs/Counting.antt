-- The loop that counts children: after the nodes below v, each byte of `out` is its node's children so far. Assumes nothing.
use mathlib.Core.Path.{◌≡◌, refl, sym, ◌∙◌, ap}
use mathlib.Core.Bool.{Bool, true, false, cond}
use mathlib.Core.List.{List, [], ◌∷◌}
use Prim.Native.Nat.{ℕ, pred, ◌+◌, ◌≤◌, ◌<◌}
use native.Mathlib.Nat.{le_antisymm}
use native.Mathlib.Omega.{arith}
use lib.Dec.{eqb}
use lib.ListN.{length, get_or, set, replicate, length-set, length-append, length-replicate, get_or-replicate}
use lib.Seq.{get_or-set_same, get_or-set_other}
use borrow.Author.Tests.{eqb-true, eqb-false}
use Rattle.lists.specs.Seq.{keep, up_from, all_below, table}
use Rattle.lists.proofs.Logic.{cases, decided}
use Rattle.lists.proofs.Keep.{keep-short}
use Rattle.lists.proofs.Table.{table-by, table_at, up-length}
use Rattle.plan.specs.Plan.{size, kind_of, kind_byte, kind, parent, children_below, children, child_count}
use Rattle.plan.specs.Check.{under_block, fits, count_ok, Ordered}
use Rattle.plan.proofs.PlanLaws.{children-suc}
use Rattle.checker.proofs.TestLaws.{Turn, turn_below}

pub record Counted (p out : List ℕ) (v : ℕ) : Type 0 where
  pub long : length out ≡ size p
  pub first : 0 < v
  pub within : v ≤ size p
  pub each : (u : ℕ) → u < size p → get_or out u 0 ≡ length (children_below p v u)

pub count_none : (p : List ℕ) → Ordered p → Counted p (replicate (size p) 0) 1
unfolding children_below keep up_from
count_none p h = record {
  long = length-replicate (size p) 0;
  first = omega arith;
  within = omega (arith, h.some);
  each = λ u l. get_or-replicate (size p) u 0 0 l;
}

pub count-none-told : (p : List ℕ) → true ≡ all_below (under_block p) 1
unfolding all_below under_block
count-none-told p = refl

pub count_room : {p out : List ℕ} {v u : ℕ} → Turn (Counted p out v) p v u → u < length out
count_room t = let b = turn_below t in omega (arith, t.so-far.long, t.within)

children-short : (p : List ℕ) (n u : ℕ) → length (children_below p n u) ≤ pred n
unfolding children_below
children-short p n u = omega (arith, keep-short (λ c. eqb (parent p c) u) (up_from 1 (pred n)), up-length 1 (pred n))

-- a count stays below the number of nodes, and so fits a byte
pub count_fits : {p out : List ℕ} {v u : ℕ} → Turn (Counted p out v) p v u → get_or out u 0 + 1 ≤ 255
count_fits {p} {out} {v} {u} t =
    let b = turn_below t in
    let l = t.within in
    omega (arith, t.so-far.each u (omega arith), children-short p v u, t.ordered.few)

pub count_turn : {p out : List ℕ} {v u : ℕ} → Turn (Counted p out v) p v u → Counted p (set out u (get_or out u 0 + 1)) (v + 1)
count_turn {p} {out} {v} {u} t = record {
  long = length-set out u _ ∙ t.so-far.long;
  first = omega arith;
  within = omega (arith, t.within);
  each = each;
}
  where
    more : (w : ℕ) (b : Bool) → eqb (parent p v) w ≡ b → length (children_below p (v + 1) w) ≡ length (children_below p v w) + cond b 1 0
    more w true e = rw (children-suc p v w t.first, e) (length-append (children_below p v w) (v ∷ []))
    more w false e = rw (children-suc p v w t.first, e) (length-append (children_below p v w) [])

    each : (w : ℕ) → w < size p → get_or (set out u (get_or out u 0 + 1)) w 0 ≡ length (children_below p (v + 1) w)
    each w m = cases (decided (eqb (parent p v) w))
        (λ e. let q : u ≡ w = t.up ∙ eqb-true (parent p v) w e in
        rw q (get_or-set_same out w (get_or out w 0 + 1) 0 (omega (arith, t.so-far.long)) ∙ ap (λ k. k + 1) (t.so-far.each w m) ∙ sym (more w true e)))
        (λ e. get_or-set_other out u w _ 0 (λ q. eqb-false (parent p v) w e (sym (q ∙ t.up))) ∙ t.so-far.each w m ∙ sym (more w false e ∙ omega arith))

pub count-done : (p out : List ℕ) (v : ℕ) → Counted p out v → size p ≤ v → out ≡ table (child_count p) (size p)
unfolding child_count children
count-done p out v i l =
    let e : v ≡ size p = le_antisymm i.within l in
    table-by (child_count p) (size p) out i.long (λ u m. i.each u m ∙ ap (λ n. length (children_below p n u)) e)

-- a node's count, read in the table
pub count-told : (p counts : List ℕ) (v k : ℕ) (r : Bool) → counts ≡ table (child_count p) (size p) → v < size p →
    k ≡ kind_byte p v → r ≡ fits (kind_of k) (get_or counts v 0) → r ≡ count_ok p v
unfolding count_ok kind
count-told p counts v k r e l f h = h ∙ rw (f, e, table_at (child_count p) (size p) v l)
