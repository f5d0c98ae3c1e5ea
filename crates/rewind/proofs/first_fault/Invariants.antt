-- The entries from i on are without fault. Assumes nothing.
use mathlib.Core.Path.{◌≡◌}
use mathlib.Core.List.{List}
use Prim.Native.Nat.{ℕ, ◌-◌}
use Rattle.layout.specs.Layout.{via, layout_by}
use Rattle.rewind.specs.Rewound.{first_fault}
use Rattle.rewind.proofs.first_fault.Given as goal

abbrev pub invariant-loop-i : goal.invariant-loop-i
invariant-loop-i l =
    ((home : List ℕ) → first_fault l.lay.plan.now (layout_by l.lay.rows home) (via l.lay.row.now) l.entries (l.i - l.place) l.i ≡ first_fault l.lay.plan.now (layout_by l.lay.rows home) (via l.lay.row.now) l.entries (l.count - l.place) l.count)
