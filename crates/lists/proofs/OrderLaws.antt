-- Byte order: no list is smaller than itself, and what is smaller than a smaller one is smaller. Assumes nothing.
use mathlib.Core.Path.{◌≡◌, refl, ◌∙◌, ap}
use mathlib.Core.List.{List}
use Prim.Native.Nat.{ℕ}
use native.Mathlib.Omega.{arith}
use lib.ListN.{drop}
use Rattle.lists.specs.Seq.{head_or}
use Rattle.lists.specs.Smallest.{Less, here, there}

-- two lists, so that a match can split them
pub less-not : {l m : List ℕ} → Less l m → l ≡ m → ⊥
unfolding head_or
less-not (here {b} {c} h) e = let q : b ≡ c = ap (head_or 0) e in omega arith
less-not (there q h) e = less-not h (ap (drop 1) e)

pub less-trans : {l m n : List ℕ} → Less l m → Less m n → Less l n
less-trans (here {b = a} {c = b} h) (here {c = c} k) = here {b = a} {c = c} (omega arith)
less-trans (here {b = a} {c = b} h) (there {c = c} e k) = here {b = a} {c = c} (omega arith)
less-trans (there {b = a} {c = b} e h) (here {c = c} k) = here {b = a} {c = c} (omega arith)
less-trans (there e h) (there f k) = there (e ∙ f) (less-trans h k)

pub less-apart : {l m : List ℕ} → Less l m → Less m l → ⊥
less-apart h g = less-not (less-trans h g) refl
