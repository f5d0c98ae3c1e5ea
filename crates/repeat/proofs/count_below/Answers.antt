-- The number behind the node's tree, written from 0 on, tells how many there are. Assumes nothing.
use mathlib.Core.Path.{refl}
use Rattle.repeat.proofs.ChildLaws.{below-ready}
use Rattle.repeat.proofs.count_below.Goals as goal

pub place-requires : goal.place-requires
place-requires c = let r = c.requires in below-ready r.0 r.1 _ r.2 _ refl
