-- The tests; then the list is written aside, and copied if there is room for it. Assumes nothing.
use Rattle.std.proofs.Common.{refl, sym, ◌∙◌, arith}
use Rattle.event.proofs.ValidLaws.{valid}
use Rattle.fault.proofs.Laws.{fault-some, handed_on, handed_on-value}
use Rattle.guard.proofs.PutLaws.{front_length, front-in}
use Rattle.find_audience.proofs.CallLaws.{copied, audience-refused, list-few, audience-list}
use Rattle.merge.proofs.OutputLaws.{front-short, front-done}
use Rattle.find_audience.proofs.audience.Goals as goal

pub returns-in_err-validate : goal.returns-in_err-validate
returns-in_err-validate c = let h = c.from_residual.ensures.1 in
    rw (handed_on _ _ h, handed_on-value _ _ h) (audience-refused _ _ _ _ _ c.in_err-validate.ensures (fault-some _))

pub overflow_cast-code : goal.overflow_cast-code
overflow_cast-code c = let v = valid _ _ _ _ _ (sym c.in_ok-validate.ensures) in omega arith

pub overflow_cast-node : goal.overflow_cast-node
overflow_cast-node c = let v = valid _ _ _ _ _ (sym c.in_ok-validate.ensures) in omega (arith, v.plan.few)

pub hearers-to-requires : goal.hearers-to-requires
hearers-to-requires c = let v = valid _ _ _ _ _ (sym c.in_ok-validate.ensures) in (v.plan, v.node_in, v.applied)

pub put-length-requires : goal.put-length-requires
put-length-requires c = let v = valid _ _ _ _ _ (sym c.in_ok-validate.ensures) in record { plan_bound = v.plan.few; to_in_bounds = list-few _ _ _ v _ c.hearers-to.ensures }

pub returns-then-buf-length : goal.returns-then-buf-length
returns-then-buf-length c =
    audience-list _ _ _ (valid _ _ _ _ _ (sym c.in_ok-validate.ensures)) _ c.hearers-to.ensures _ (sym c.in_ok-validate.ensures) ∙ front-short _ _ _ (omega (arith, c.put-length.ensures.place, c.if-buf-length.true))

pub slice_bounds-local-end : goal.slice_bounds-local-end
slice_bounds-local-end c = front-in c.put-length.ensures (list-few _ _ _ (valid _ _ _ _ _ (sym c.in_ok-validate.ensures)) _ c.hearers-to.ensures)

pub slice_bounds-copy-end : goal.slice_bounds-copy-end
slice_bounds-copy-end c = front_length c.put-length.ensures (list-few _ _ _ (valid _ _ _ _ _ (sym c.in_ok-validate.ensures)) _ c.hearers-to.ensures)

pub copy-requires : goal.copy-requires
copy-requires c = let e = front_length c.put-length.ensures (list-few _ _ _ (valid _ _ _ _ _ (sym c.in_ok-validate.ensures)) _ c.hearers-to.ensures) in omega (arith, c.if-buf-length.false)

pub overflow_cast-result : goal.overflow_cast-result
overflow_cast-result c = let l = list-few _ _ _ (valid _ _ _ _ _ (sym c.in_ok-validate.ensures)) _ c.hearers-to.ensures in omega (arith, c.put-length.ensures.place)

pub returns : goal.returns
returns c =
    audience-list _ _ _ (valid _ _ _ _ _ (sym c.in_ok-validate.ensures)) _ c.hearers-to.ensures _ (sym c.in_ok-validate.ensures)
    ∙ front-done _ _ _ (omega (arith, c.put-length.ensures.place, c.if-buf-length.false))
    ∙ copied _ c.put-length.ensures (list-few _ _ _ (valid _ _ _ _ _ (sym c.in_ok-validate.ensures)) _ c.hearers-to.ensures) refl c.copy.ensures
