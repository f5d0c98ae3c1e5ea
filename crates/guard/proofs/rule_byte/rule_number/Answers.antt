-- An xor's child commits by its pick; every other rule is its two digits. Assumes nothing.
use mathlib.Core.Path.{◌≡◌, ap, ◌∙◌}
use Prim.Native.Nat.{◌+◌, ◌*◌, ◌≤◌}
use native.Mathlib.Omega.{arith}
use Rattle.event.specs.Event.{code_of, at}
use Rattle.guard.specs.Rule.{rule_byte}
use Rattle.guard.proofs.Between.{in_between}
use Rattle.guard.proofs.RuleLaws.{rule-f3, rule-plain, read-last}
use Rattle.guard.proofs.rule_byte.rule_number.Goals as goal
use Rattle.guard.proofs.rule_byte.rule_number.Goals.{then-code, else-code}
use Rattle.guard.proofs.rule_byte.rule_number.Lts
use Rattle.guard.proofs.rule_byte.rule_number.Tie
use Rattle.guard.proofs.rule_byte.rule_number.Reads

-- the code that is read
module _ (c : Lts.Joined1 Tie.the-claims Reads.Pre Reads.Post) where
  read : code_of c.if-code.k ≡ code_of c.args.code
  read = elim c.if-code.branch [ then-code w ↦ ap code_of w.k-is | else-code w ↦ ap code_of w.k-is ∙ read-last _ w.if-code.false ]

  known : (1 ≤ c.if-code.k) × (c.if-code.k ≤ 8)
  known = elim c.if-code.branch [ then-code w ↦ (let b = in_between 1 7 _ w.if-code.true in rw w.k-is (b.0, omega (arith, b.1))) | else-code w ↦ (omega arith, omega arith) ]

  rule-is : let a = c.args in rule_byte a.plan.now (at (code_of c.if-code.k) a.v) ≡ rule_byte a.plan.now (at (code_of a.code) a.v)
  rule-is = rw read

pub returns-then-k-above : goal.returns-then-k-above
returns-then-k-above c = let j = c.before.before.before in rule-f3 _ _ _ (known j).0 (known j).1 (rw c.above.ensures at c.if-k-above.true) ∙ rule-is j

pub rule_kind-requires : goal.rule_kind-requires
rule_kind-requires c = known c.before.before.before

pub overflow_add-result : goal.overflow_add-result
overflow_add-result c = omega (arith, c.from-2.ensures, (known c.before.before.before.before.before.before).1)

pub returns : goal.returns
returns c = let n = c.before.before.before in
    let j = n.before.before.before in
    ap (λ k. 16 * c.from.result + k) c.from-2.ensures ∙ ap (λ k. 16 * k + j.if-code.k) (c.from.ensures ∙ n.rule_kind.ensures)
    ∙ rule-plain _ _ _ (known j).0 (known j).1 (rw n.above.ensures at n.if-k-above.false) ∙ rule-is j
