-- The desks below d are numbered. Assumes nothing.
use Rattle.desk_layout.proofs.NumberLaws.{Numbering}
use Rattle.desk_layout.proofs.number_rows.Given as goal

abbrev pub invariant-loop-d : goal.invariant-loop-d
invariant-loop-d l = Numbering l.initial.row l.top l.row l.count l.d
