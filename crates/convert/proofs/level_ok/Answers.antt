-- Assumes nothing.
use Rattle.std.proofs.Common.{◌≡◌, pred, ◌+◌, ◌*◌, ◌-◌, eqb, ap, arith, eq-eqb, ne_eqb, add-one}
use Rattle.depth_form.specs.Form.{depth_at, level_ok}
use Rattle.convert.proofs.level_ok.Goals as goal

pub returns-then-v-eq0 : goal.returns-then-v-eq0
unfolding level_ok
returns-then-v-eq0 c = let z = c.if-v-eq0.true in rw (eq-eqb _ _ z, ← z) (ap (λ e. eqb e 1) c.depth_at-e.ensures)

pub overflow_add-result : goal.overflow_add-result
unfolding depth_at
overflow_add-result c = omega (arith, c.depth_at-before.ensures, c.type_inv.depths (2 * (c.args.v - 1) + 1))

pub returns : goal.returns
unfolding level_ok
returns c =
    let n = c.if-v-eq0.false in
    let s : pred c.args.v ≡ c.args.v - 1 = omega arith in
    rw (ne_eqb _ _ n, s, ← c.depth_at-e.ensures, ← c.depth_at-before.ensures, add-one)
