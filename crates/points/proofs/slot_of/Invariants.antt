-- No point before slot i has the name. Assumes nothing.
use mathlib.Core.Path.{◌≡◌}
use Prim.Native.Nat.{◌-◌, ◌≤◌}
use Rattle.points.specs.Points.{has_name, first_slot, slot_of}
use Rattle.points.proofs.slot_of.Given as goal

abbrev pub invariant-loop-i : goal.invariant-loop-i
invariant-loop-i l = (l.i ≤ 16) × (first_slot (has_name l.names l.places l.name) (16 - l.i) l.i ≡ slot_of l.names l.places l.name)
