use mathlib.Core.Path.{refl, sym, ◌∙◌}
use Rattle.simulation.proofs.OwnLaws.{laid_kept}
use Rattle.rewind.proofs.BackLaws.{taken-long, fault-none, rewound-on, rewound-end}
use Rattle.rewind.proofs.rewind.Goals as goal

pub loop-i-init : goal.loop-i-init
loop-i-init c = (refl, c.requires.count_value, refl)

pub take_back-requires : goal.take_back-requires
take_back-requires c = record { laid = laid_kept _ _ _ _ c.requires.laid c.loop-i.invariant.0; e_value = (fault-none _ _ _ _ _ _ c.loop-i-test.true _ refl c.loop-i.invariant.1).0 }

pub loop-i-preserved : goal.loop-i-preserved
loop-i-preserved c = let t = c.loop-i-test.true in let f = fault-none _ _ _ _ _ _ t _ refl c.loop-i.invariant.1 in
    (taken-long _ _ _ _ _ f.0 _ c.take_back.ensures ∙ c.loop-i.invariant.0, f.1, rewound-on _ _ _ _ _ _ t _ refl _ _ c.take_back.ensures ∙ c.loop-i.invariant.2)

pub shape_of-state : goal.shape_of-state
shape_of-state c = c.loop-i.invariant.0

pub returns : goal.returns
returns c = sym (rewound-end _ _ _ _ _ _ c.loop-i-test.false _) ∙ c.loop-i.invariant.2
