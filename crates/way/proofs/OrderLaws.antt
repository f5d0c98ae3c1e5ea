-- Byte order: no list is smaller than itself with a 0 put in. Assumes nothing.
use mathlib.Core.Path.{◌≡◌, sym, ap}
use mathlib.Core.List.{List}
use Prim.Native.Nat.{ℕ, zero, suc}
use native.Mathlib.Omega.{arith}
use lib.ListN.{set, drop}
use Rattle.lists.specs.Seq.{head_or}
use Rattle.lists.specs.Smallest.{Less, here, there}
use Rattle.lists.proofs.OrderLaws.{less-not}

pub less-zeroed : {l m : List ℕ} (w : ℕ) → Less l m → m ≡ set l w 0 → ⊥
unfolding head_or
less-zeroed zero (here {b} {c} {l} {m} h) e = let q : c ≡ 0 = ap (head_or 0) e in omega arith
less-zeroed zero (there q h) e = less-not h (sym (ap (drop 1) e))
less-zeroed (suc w) (here {b} {c} h) e = let q : c ≡ b = ap (head_or 0) e in omega arith
less-zeroed (suc w) (there q h) e = less-zeroed w h (ap (drop 1) e)
