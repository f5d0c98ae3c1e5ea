use Rattle.std.proofs.Common.{refl, sym, ◌∙◌, ◌<◌, arith}
use Rattle.points.proofs.DropLaws.{drop-none, turn-stay, turn-go, drop-done}
use Rattle.std.proofs.lemmas.List.{set-get_or}
use Rattle.points.proofs.drop_past.Goals as goal
use Rattle.points.proofs.drop_past.Goals.{then-is_past, else-is_past}

pub loop-i-init : goal.loop-i-init
loop-i-init c = drop-none _ _ _ c.requires.0 c.requires.1

pub put_name-requires : goal.put_name-requires
put_name-requires c = (c.loop-i.invariant.names-long, omega (arith, c.requires.1), refl)

pub loop-i-preserved : goal.loop-i-preserved
loop-i-preserved c = let t : c.loop-i.i < 16 = omega (arith, c.requires.1) in
    elim c.if-is_past.branch [
      | then-is_past w ↦ turn-go _ _ _ _ _ _ c.loop-i.invariant t _ c.is_past.ensures _ _ w.if-is_past.true (w.names-is ∙ w.put_name.ensures) w.places-is
      | else-is_past w ↦ turn-stay _ _ _ _ _ _ c.loop-i.invariant t _ c.is_past.ensures _ _ w.if-is_past.false w.names-is (w.places-is ∙ set-get_or _ _ 0)
    ]

pub shape_of-names : goal.shape_of-names
shape_of-names c = c.loop-i.invariant.names-long ∙ sym c.requires.0

pub shape_of-places : goal.shape_of-places
shape_of-places c = c.loop-i.invariant.places-long ∙ sym c.requires.1

pub returns : goal.returns
returns c = drop-done _ _ _ _ _ _ c.loop-i.invariant (omega (arith, c.requires.1))
