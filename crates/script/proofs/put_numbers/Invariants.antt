-- The lines of the numbers that are left give, from w on, what all of them give from the front. Assumes nothing.
use Rattle.script.specs.Script.{number_line}
use Rattle.lists.proofs.Each.{EachLeft}
use Rattle.script.proofs.put_numbers.Given as goal

abbrev pub invariant-loop-number : goal.invariant-loop-number
invariant-loop-number l = EachLeft number_line l.numbers l.initial.out l.initial.w l.out l.w l.number-index
