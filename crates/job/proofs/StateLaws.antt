-- Rows in a state: where a row ends, how long it is, put back, and one byte of it. Assumes nothing.
use mathlib.Core.Path.{◌≡◌, sym, ap, ap₂, ◌∙◌}
use mathlib.Core.List.{List, ◌++◌}
use Prim.Native.Nat.{ℕ, ◌+◌, ◌*◌, ◌≤◌, ◌<◌}
use native.Mathlib.Nat.{mul-le-mul_right, suc-mul}
use native.Mathlib.Omega.{arith}
use lib.ListN.{length, get_or, take, drop, set, length-take, length-drop, take-append-drop}
use lib.Seq.{get_or-take, get_or-drop, take-set-le, take-set-lt, drop-set-lt, drop-set-add}
use Rattle.plan.specs.Plan.{size}
use Rattle.event.specs.Bit.{with_bit, without_bit}
use Rattle.row.specs.Row.{hear, unhear}
use Rattle.job.specs.Simulation.{row_of, with_row}

-- row q of n bytes ends where the next begins
pub row_below : (n j k : ℕ) → j < k → j * n + n ≤ k * n
row_below n j k h = rw (← suc-mul j n) (mul-le-mul_right n h)

-- a row put back changes nothing
pub with-same : (p st : List ℕ) (q : ℕ) → with_row p st q (row_of p st q) ≡ st
unfolding with_row row_of
with-same p st q = ap (λ (l : List ℕ). take (q * size p) st ++ l) (take-append-drop (size p) (drop (q * size p) st)) ∙ take-append-drop (q * size p) st

-- a row of a state of k rows is one byte a node
pub row-length : (p st : List ℕ) (k q : ℕ) → length st ≡ k * size p → q < k → length (row_of p st q) ≡ size p
unfolding row_of
row-length p st k q e l =
    let r = row_below (size p) q k l in
    let d = length-drop (q * size p) st in
    omega (arith, length-take (size p) (drop (q * size p) st))

-- one byte of row q
module _ (p st : List ℕ) (q v : ℕ) (node : v < size p) where
  pub byte_at : get_or (row_of p st q) v 0 ≡ get_or st (q * size p + v) 0
  unfolding row_of
  byte_at = get_or-take (size p) (drop (q * size p) st) v 0 node ∙ get_or-drop (q * size p) st v 0

  set-parts : (n a x : ℕ) → v < n → take a st ++ (set (take n (drop a st)) v x ++ drop n (drop a st)) ≡ set st (a + v) x
  set-parts n a x h =
      let s : List ℕ = set st (a + v) x in
      let front : take n (drop a s) ≡ set (take n (drop a st)) v x = ap (λ (l : List ℕ). take n l) (drop-set-add a st v x) ∙ take-set-lt n (drop a st) v x h in
      let back : drop n (drop a s) ≡ drop n (drop a st) = ap (λ (l : List ℕ). drop n l) (drop-set-add a st v x) ∙ drop-set-lt n (drop a st) v x h in
      sym (sym (take-append-drop a s) ∙ ap₂ ◌++◌ (take-set-le a st (a + v) x (omega arith)) (sym (take-append-drop n (drop a s)) ∙ ap₂ ◌++◌ front back))

  -- a byte of row q set is a byte of the state set
  pub row-set : (x : ℕ) → with_row p st q (set (row_of p st q) v x) ≡ set st (q * size p + v) x
  unfolding with_row row_of
  row-set x = set-parts (size p) (q * size p) x node

  pub row-hear : (code : ℕ) → with_row p st q (hear (row_of p st q) code v) ≡ set st (q * size p + v) (with_bit (get_or st (q * size p + v) 0) code)
  unfolding hear
  row-hear code = rw byte_at (row-set (with_bit (get_or st (q * size p + v) 0) code))

  pub row-unhear : (code : ℕ) → with_row p st q (unhear (row_of p st q) code v) ≡ set st (q * size p + v) (without_bit (get_or st (q * size p + v) 0) code)
  unfolding unhear
  row-unhear code = rw byte_at (row-set (without_bit (get_or st (q * size p + v) 0) code))
