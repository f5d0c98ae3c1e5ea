use Rattle.std.proofs.Common.{refl, sym, ◌∙◌, arith}
use Rattle.points.specs.Points.{has_name, slot_of}
use Rattle.points.proofs.SlotLaws.{slot-found, slot-on, slot-end}
use Rattle.points.proofs.KeyLaws.{key_has, key-has-not, free-has-not}
use Rattle.points.proofs.slot_of.Goals as goal
use Rattle.points.proofs.slot_of.Goals.{then-word-ne0+else-key-wanted, else-word-ne0}

pub key-wanted-requires : goal.key-wanted-requires
key-wanted-requires c = omega (arith, c.requires.2)

pub loop-i-init : goal.loop-i-init
unfolding slot_of
loop-i-init c = (omega arith, refl)

pub key-requires : goal.key-requires
key-requires c = omega (arith, c.requires.0, c.requires.1)

pub returns-then-key-wanted : goal.returns-then-key-wanted
returns-then-key-wanted c = let a = c.args in record {
  value =
      sym (slot-found (has_name a.names.now a.places.now a.name.now) c.loop-i.i (omega (arith, c.requires.1))
      (key_has a.names.now _ a.name.now (λ j. omega (arith, c.type_inv.names j)) (λ j. omega (arith, c.type_inv.name j)) a.places.now c.if-word-ne0.true _ _ c.key.ensures c.key-wanted.ensures c.if-key-wanted.true)) ∙ c.loop-i.invariant.1;
  within = omega (arith, c.requires.1);
}

pub loop-i-preserved : goal.loop-i-preserved
loop-i-preserved c = let a = c.args in (
  omega (arith, c.requires.1),
  sym (slot-on (has_name a.names.now a.places.now a.name.now) c.loop-i.i (omega (arith, c.requires.1))
      (elim c.if-word-ne0.branch [
        | then-word-ne0+else-key-wanted w ↦ key-has-not a.names.now _ a.name.now (λ j. omega (arith, c.type_inv.names j)) (λ j. omega (arith, c.type_inv.name j)) a.places.now w.if-word-ne0.true _ _ w.key.ensures c.key-wanted.ensures w.if-key-wanted.false
        | else-word-ne0 w ↦ free-has-not a.names.now a.places.now a.name.now c.loop-i.i w.if-word-ne0.false
      ])) ∙ c.loop-i.invariant.1,
)

pub returns : goal.returns
returns c = let a = c.args in record {
  value = sym (slot-end (has_name a.names.now a.places.now a.name.now) c.loop-i.i (omega (arith, c.requires.1)) c.loop-i.invariant.0) ∙ c.loop-i.invariant.1;
  within = tt;
}
