use Rattle.std.proofs.Common.{refl, ◌∙◌, sym, ◌<◌, arith}
use Rattle.points.proofs.SlotLaws.{name-long, slot-like, slot-unlike}
use Rattle.points.proofs.FitLaws.{fitting-none, fitting-all, turn-free, stop-past, stop-once, turn-used}
use Rattle.points.proofs.slots_fit.Goals as goal
use Rattle.points.proofs.slots_fit.Goals.{then-word-ne0+else-is_past+else-ne, else-word-ne0}

pub loop-i-init : goal.loop-i-init
loop-i-init c = fitting-none _ _ _

pub returns-then-is_past : goal.returns-then-is_past
returns-then-is_past c = let a = c.args in
    stop-past a.names.now a.places.now a.count _ (omega (arith, c.requires.1)) c.if-word-ne0.true _ c.is_past.ensures c.if-is_past.true

pub overflow_mul-a : goal.overflow_mul-a
overflow_mul-a c = omega (arith, c.requires.1)

pub overflow_add-e : goal.overflow_add-e
overflow_add-e c = omega (arith, c.requires.1)

pub slot_of-requires : goal.slot_of-requires
slot_of-requires c = let l : c.loop-i.i < 16 = omega (arith, c.requires.1) in (c.requires.0, c.requires.1, name-long _ _ _ c.requires.0 l refl)

pub returns-then-ne : goal.returns-then-ne
returns-then-ne c = let a = c.args in
    stop-once a.names.now a.places.now a.count _ (omega (arith, c.requires.1)) c.if-word-ne0.true _ c.is_past.ensures _ _ refl c.slot_of.ensures.value (slot-unlike _ _ (omega (arith, c.requires.1)) (sym c.ne.ensures ∙ c.if-ne.true))

pub loop-i-preserved : goal.loop-i-preserved
loop-i-preserved c = let a = c.args in let t : c.loop-i.i < 16 = omega (arith, c.requires.1) in
    elim c.if-word-ne0.branch [
      | then-word-ne0+else-is_past+else-ne w ↦ turn-used a.names.now a.places.now a.count _ t w.if-word-ne0.true _ w.is_past.ensures _ _ refl w.slot_of.ensures.value c.loop-i.invariant w.if-is_past.false (slot-like _ _ (sym w.ne.ensures ∙ w.if-ne.false))
      | else-word-ne0 w ↦ turn-free a.names.now a.places.now a.count _ t c.loop-i.invariant w.if-word-ne0.false
    ]

pub returns : goal.returns
returns c = fitting-all _ _ _ _ c.loop-i.invariant (omega (arith, c.requires.1))
