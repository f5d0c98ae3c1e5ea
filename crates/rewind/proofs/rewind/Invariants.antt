-- The entries from i on are taken back, and nothing is wrong with the others. Assumes nothing.
use mathlib.Core.Path.{◌≡◌}
use Prim.Native.Nat.{◌-◌}
use lib.ListN.{length}
use Rattle.layout.specs.Layout.{via, layout_by}
use Rattle.rewind.specs.Rewound.{first_fault, rewound}
use Rattle.rewind.proofs.rewind.Given as goal

abbrev pub invariant-loop-i : goal.invariant-loop-i
invariant-loop-i l = (length l.state ≡ length l.initial.state)
    × (first_fault l.lay.plan.now (layout_by l.lay.rows l.lay.home.now) (via l.lay.row.now) l.entries (l.i - l.place) l.i ≡ 0)
    × (rewound l.lay.plan.now (layout_by l.lay.rows l.lay.home.now) (via l.lay.row.now) l.state l.entries (l.i - l.place) l.i ≡ rewound l.lay.plan.now (layout_by l.lay.rows l.lay.home.now) (via l.lay.row.now) l.initial.state l.entries (l.count - l.place) l.count)
