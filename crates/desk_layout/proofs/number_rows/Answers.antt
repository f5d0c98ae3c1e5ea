use mathlib.Core.Path.{refl, ◌∙◌}
use native.Mathlib.Omega.{arith}
use Rattle.desk_layout.proofs.NumberLaws.{numbering-none, count-few, numbering-turn, numbered-count, numbered-all}
use Rattle.desk_layout.proofs.number_rows.Goals as goal

pub loop-d-init : goal.loop-d-init
loop-d-init c = numbering-none _ _ c.requires.0

pub next_row-count-requires : goal.next_row-count-requires
next_row-count-requires c = count-few _ _ _ _ _ c.loop-d.invariant c.requires.1 (omega arith)

pub loop-d-preserved : goal.loop-d-preserved
loop-d-preserved c = numbering-turn _ _ _ _ _ c.loop-d.invariant c.requires.1 (omega arith) _ _ _ refl c.numbered.ensures c.next_row-count.ensures

pub returns : goal.returns
returns c = record { value = c.from.ensures ∙ numbered-count _ _ _ _ _ c.loop-d.invariant (omega arith); row_after = numbered-all _ _ _ _ _ c.loop-d.invariant (omega arith) }
