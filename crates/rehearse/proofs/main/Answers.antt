-- What is printed stands within the buffer. Assumes nothing.
use Rattle.std.proofs.Common.{arith, sym}
use Rattle.std.proofs.lemmas.List.{length-take-le}
use Rattle.script.proofs.ScriptLaws.{rehearse-within}
use Rattle.rehearse.proofs.main.Goals as goal

pub slice_bounds-out-end : goal.slice_bounds-out-end
slice_bounds-out-end c = omega (arith, rehearse-within _ _ c.rehearse-m.ensures, c.rehearse-m.auto.out)

pub slice_bounds-write_all-end : goal.slice_bounds-write_all-end
slice_bounds-write_all-end c = sym (length-take-le _ _ (omega (arith, rehearse-within _ _ c.rehearse-m.ensures, c.rehearse-m.auto.out)))
