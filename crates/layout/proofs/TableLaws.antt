-- Tables, and the layout without one (specs/Layout.antt). Assumes nothing.
use mathlib.Core.Path.{◌≡◌, ap, fun_ext}
use mathlib.Core.List.{List, []}
use Prim.Native.Nat.{ℕ, ◌≤◌, ◌<◌}
use borrow.Author.Tests.{lt-ltb, le-ltb}
use lib.ListN.{length, get_or}
use native.Mathlib.Omega.{arith}
use Rattle.plan.specs.Plan.{size}
use Rattle.event.specs.Site.{own}
use Rattle.layout.specs.Layout.{via, layout_by, OwnByNone}

pub via-in : (t : List ℕ) (i : ℕ) → i < length t → via t i ≡ get_or t i 0
unfolding via
via-in t i l = rw (lt-ltb i (length t) l)

pub via-past : (t : List ℕ) (i : ℕ) → length t ≤ i → via t i ≡ i
unfolding via
via-past t i l = rw (le-ltb i (length t) l)

pub no-table : via [] ≡ (λ q. q)
no-table = fun_ext (λ q. via-past [] q (omega arith))

pub own-by-none : OwnByNone
unfolding layout_by own
own-by-none p = ap (λ (h : ℕ → ℕ). record { rows = size p; home = h }) no-table
