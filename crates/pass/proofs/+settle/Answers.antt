use Rattle.std.proofs.Common.{ap, sym, ◌∙◌, arith}
use Rattle.plan.specs.Plan.{kind, kind_byte}
use Rattle.plan.specs.declared.kinds.Kind.TheVariants.{Task as task}
use Rattle.plan.proofs.KindLaws.{same_kind}
use Rattle.fault.proofs.Laws.{fault-some}
use Rattle.pass.specs.Values.{mark_byte}
use Rattle.pass.proofs.TableLaws.{task-told, not-task, end-few, handed, mark-fault}
use Rattle.pass.proofs.SettleLaws.{begun, settle-refused, task-ends}
use Rattle.pass.proofs.WalkLaws.{first_small, begin-first, begin-second, turn-less, turn-fault, turn-down, turn-done, turn_on, walk-down, walk_ends}
use Rattle.pass.proofs.+settle.Goals as goal
use Rattle.pass.proofs.+settle.Goals.{then-says_no, else-says_no}

pub returns-then-eq : goal.returns-then-eq
unfolding kind kind_byte
returns-then-eq t c = record {
  settles = task-ends c.requires.0 (sym c.from-kind.ensures ∙ same_kind task _ (sym (task-told _ _ c.eq.ensures) ∙ c.if-eq.true)) _ c.task_end.ensures.value;
  own = c.task_end.ensures.own;
}

pub returns-in_err-check_answer : goal.returns-in_err-check_answer
returns-in_err-check_answer t c =
    let e = c.in_err-check_answer.ensures in
    rw (handed _ _ c.from_residual.ensures.1) (record {
      settles = settle-refused c.requires.0 _ c.from-kind.ensures _ e.number (fault-some _);
      own = e.own;
    })

pub next_sibling-c-requires : goal.next_sibling-c-requires
next_sibling-c-requires t c =
    let k = begun c.requires.0 _ c.from-kind.ensures (not-task _ _ c.eq.ensures c.if-eq.false) _ _ c.requires.1 c.in_ok-check_answer.ensures.number in
    omega (arith, first_small k, c.first_child-c.ensures)

pub loop-c-init : goal.loop-c-init
loop-c-init t c =
    let k = begun c.requires.0 _ c.from-kind.ensures (not-task _ _ c.eq.ensures c.if-eq.false) _ _ c.requires.1 c.in_ok-check_answer.ensures.number in
    let e = c.at_first-start.ensures in
    let f = c.first_child-c.ensures in
    elim c.if-says_no.branch [ then-says_no w ↦ begin-second k (sym c.says_no.ensures ∙ w.if-says_no.true) _ _ _ e f (w.c-is ∙ w.next_sibling-c.ensures) | else-says_no w ↦ rw w.c-is (begin-first k (sym c.says_no.ensures ∙ w.if-says_no.false) _ _ e f) ]

pub ends_as-requires : goal.ends_as-requires
ends_as-requires t c = λ e.
    turn-down c.loop-c.invariant c.loop-c-test.true _ _ c.settle.auto.marks c.in-Ok.ensures.settles _ c.child_mark-mark.ensures (end-few _)
    _ _ c.at_first-start.ensures c.comes_to-state.ensures (ap mark_byte e)

pub returns-then-done : goal.returns-then-done
returns-then-done t c = rw c.from.ensures (record {
  settles = turn-done c.loop-c.invariant c.loop-c-test.true _ _ c.settle.auto.marks c.in-Ok.ensures.settles _ c.child_mark-mark.ensures (end-few _)
      _ _ c.at_first-start.ensures c.comes_to-state.ensures _ c.done.ensures c.if-done.true _ c.ends_as.ensures.value;
  own = c.ends_as.ensures.own;
})

pub returns-in-Err : goal.returns-in-Err
returns-in-Err t c = record {
  settles = turn-fault c.loop-c.invariant c.loop-c-test.true _ _ c.settle.auto.marks c.in-Err.ensures.settles _ (mark-fault _ _ _ _ c.in-Err.ensures.own)
      c.in-Err.ensures.own;
  own = c.in-Err.ensures.own;
}

pub loop-c-smaller : goal.loop-c-smaller
loop-c-smaller t c = turn-less c.loop-c.invariant c.loop-c-test.true _ c.next_sibling-c-in-loop-c.ensures

pub loop-c-preserved : goal.loop-c-preserved
loop-c-preserved t c = rw c.from.ensures
    (turn_on c.loop-c.invariant c.loop-c-test.true _ _ c.settle.auto.marks c.in-Ok.ensures.settles _ c.child_mark-mark.ensures (end-few _)
    _ _ c.at_first-start.ensures c.comes_to-state.ensures _ c.done.ensures c.if-done.false _ c.next_sibling-c-in-loop-c.ensures)

pub ends_as-requires-2 : goal.ends_as-requires-2
ends_as-requires-2 t c = λ e. walk-down c.loop-c.invariant (ap mark_byte e)

pub returns : goal.returns
returns t c = record { settles = walk_ends c.loop-c.invariant c.loop-c-test.false _ c.ends_as-2.ensures.value; own = c.ends_as-2.ensures.own }
