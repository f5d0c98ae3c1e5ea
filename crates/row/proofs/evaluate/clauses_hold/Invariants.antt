-- A clause's rest says what the clause says, and the rest of the children what all of them say. Assumes nothing.
use Rattle.std.proofs.Common.{◌≡◌, true, ◌≤◌, length, drop}
use Rattle.lists.specs.Seq.{all, any}
use Rattle.plan.specs.Plan.{children}
use Rattle.row.specs.Row.{heard_in}
use Rattle.row.specs.Evaluate.{clause_holds}
use Rattle.row.proofs.EvaluateLaws.{children_from}
use Rattle.row.proofs.evaluate.clauses_hold.Given as goal

abbrev pub invariant-loop-code : goal.invariant-loop-code
invariant-loop-code l = (l.code-index ≤ length l.codes) × (any (λ k. heard_in l.row k l.child) l.codes ≡ any (λ k. heard_in l.row k l.child) (drop l.code-index l.codes))

abbrev pub invariant-clause : goal.invariant-clause
invariant-clause l = (l.holds ≡ true) × (all (clause_holds l.row l.codes) (children l.plan l.u) ≡ all (clause_holds l.row l.codes) (children_from l.plan l.u l.n l.child))
