-- One line of the table of bars for each arm. Assumes nothing.
use Rattle.std.proofs.Common.{◌≡◌, refl, sym, ◌∙◌, [], ◌∷◌, arith, get_or}
use Rattle.lists.specs.Seq.{any}
use Rattle.event.specs.Event.{start, offer, commit, abort, code_number, code_of, is_code}
use Rattle.event.specs.Bit.{has_bit}
use Rattle.guard.specs.Guard.{bars_by}
use Rattle.row.proofs.BarLaws.{barred-own, barred-answer, barred-down, barred-pick}
use Rattle.guard.proofs.FamilyLaws.{family-children}
use Rattle.row.proofs.is_barred.Goals as goal
use Rattle.row.proofs.is_barred.Goals.{in_default-via-then-code-lt1, in_default-via-else-code-lt1+else-code-lt7}
use Rattle.row.proofs.is_barred.Lts
use Rattle.row.proofs.is_barred.Tie
use Rattle.row.proofs.is_barred.Reads

-- the node's byte
read : (c : Lts.After-byte_at Tie.the-claims Reads.Pre Reads.Post) → let a = c.args in c.byte_at-b.result ≡ get_or a.row.now a.v 0
read c = c.byte_at-b.ensures ∙ rw c.from.ensures

pub returns-in-1 : goal.returns-in-1
unfolding any has_bit is_code code_of code_number bars_by
returns-in-1 c = c.one_of.ensures ∙ barred-own _ _ _ _ (read c.before.before.before) 1 (start ∷ []) c.in-1.is refl

pub returns-in-2 : goal.returns-in-2
unfolding any has_bit is_code code_of code_number bars_by
returns-in-2 c = c.one_of-in-2.ensures ∙ barred-own _ _ _ _ (read c.before.before.before) 2 (offer ∷ abort ∷ []) c.in-2.is refl

pub returns-in-3 : goal.returns-in-3
unfolding any has_bit is_code code_of code_number bars_by
returns-in-3 c = c.one_of-in-3.ensures ∙ barred-own _ _ _ _ (read c.before.before.before) 3 (commit ∷ abort ∷ []) c.in-3.is refl

pub returns-in-4 : goal.returns-in-4
unfolding any has_bit is_code code_of code_number bars_by
returns-in-4 c = c.one_of-in-4.ensures ∙ barred-own _ _ _ _ (read c.before.before.before) 4 (abort ∷ commit ∷ offer ∷ []) c.in-4.is refl

pub returns-in-7 : goal.returns-in-7
returns-in-7 c = c.any_holds.ensures ∙ rw (family-children, c.parent.ensures) (sym (barred-pick _ _ _ _ c.in-7.is))

pub returns-in-5-to-6 : goal.returns-in-5-to-6
unfolding any has_bit is_code
returns-in-5-to-6 c = c.one_of-in-5-to-6.ensures ∙ barred-answer _ _ _ _ (read c.before.before.before) (omega arith) (omega arith)

pub returns-in_default : goal.returns-in_default
unfolding any has_bit is_code
returns-in_default c = c.one_of-in_default.ensures ∙ barred-down _ _ _ _ (read c.before.before.before.before) (λ a b. elim c.in_default.branch [ in_default-via-then-code-lt1 w ↦ omega arith | in_default-via-else-code-lt1+else-code-lt7 w ↦ omega arith ])
