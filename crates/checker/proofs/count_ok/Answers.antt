-- Assumes nothing.
use mathlib.Core.Path.{sym, ◌∙◌}
use native.Mathlib.Omega.{arith}
use borrow.Author.Tests.{le-leb, lt-leb}
use Rattle.checker.proofs.CountLaws.{fits-block, fits_low, fits-high, fits-two, fits-waiting}
use Rattle.checker.proofs.count_ok.Goals as goal
use Rattle.checker.proofs.count_ok.Goals.{in_default-via-then-k-lt2, in_default-via-else-k-lt2+else-k-lt7}

pub returns-in-7 : goal.returns-in-7
returns-in-7 c = sym (fits-two _ _ c.in-7.is)

pub returns-then-n-ge1 : goal.returns-then-n-ge1
returns-then-n-ge1 c = sym (fits-waiting _ _ c.in-8.is ∙ rw (le-leb _ _ c.if-n-ge1.true))

pub returns-else-n-ge1 : goal.returns-else-n-ge1
returns-else-n-ge1 c = sym (fits-waiting _ _ c.in-8.is ∙ rw (lt-leb _ _ c.if-n-ge1.false))

pub returns-then-n-ge1-2 : goal.returns-then-n-ge1-2
returns-then-n-ge1-2 c = sym (fits-block _ _ (omega arith) (omega arith) ∙ rw (le-leb _ _ c.if-n-ge1-2.true))

pub returns-else-n-ge1-2 : goal.returns-else-n-ge1-2
returns-else-n-ge1-2 c = sym (fits-block _ _ (omega arith) (omega arith) ∙ rw (lt-leb _ _ c.if-n-ge1-2.false))

pub returns-in_default : goal.returns-in_default
returns-in_default c = elim c.in_default.branch [ in_default-via-then-k-lt2 w ↦ sym (fits_low _ _ (omega arith)) | in_default-via-else-k-lt2+else-k-lt7 w ↦ sym (fits-high _ _ (omega arith)) ]
