-- The theorems of this crate: the claims of specs/Claim.antt. Assumes nothing.
use mathlib.Core.Path.{◌≡◌, sym, ◌∙◌, ap}
use Prim.Native.Nat.{◌*◌}
use lib.Dec.{eqb}
use lib.ListN.{length}
use borrow.Author.Tests.{eqb-true, eq-eqb}
use Rattle.lists.proofs.Logic.{test-passed, number_passed}
use Rattle.plan.specs.Plan.{size}
use Rattle.plan.specs.Check.{length_ok, kind_ok, at_all, check_number}
use Rattle.plan.proofs.AcceptedLaws.{accepted-ordered}
use Rattle.plan.proofs.CheckLaws.{length-told}
use Rattle.plan.proofs.Exact.{passes}
use Rattle.plan.proofs.Main.{check-exact}
use Rattle.plan.proofs.ReplacedLaws.{replaced-just}
use Rattle.trees.specs.Numbering.{in_preorder}
use Rattle.trees.proofs.AboveLaws.{preorder-told}
use Rattle.depth_form.specs.Form.{depth_form, form_plan, level_ok, form_number}
use Rattle.depth_form.specs.Calls.{to_depths_number, to_depths_of, from_depths_number, from_depths_of}
use Rattle.depth_form.specs.Claim.{DepthsThere, DepthsBack, FormAsPlan, FormExact, ToDepthsCall, FromDepthsCall}
use Rattle.depth_form.proofs.LastLaws.{levels-told, levels-by}
use Rattle.depth_form.proofs.ThereLaws.{form-length, form-size, form-levels, form-back}
use Rattle.depth_form.proofs.BackLaws.{plan-long, plan-length-ok, plan-kinds-ok, plan-preorder, plan-again, plan-parents-ok}

pub form-as-plan : FormAsPlan
unfolding form_number check_number
form-as-plan d a b c =
    let l = length-told d a in
    rw (a, b, c, plan-length-ok d l.even, plan-kinds-ok d, a, b, plan-parents-ok d l (levels-told d l.some c))

pub depths-there : DepthsThere
depths-there p ok h =
    let order = preorder-told p (accepted-ordered p ok) h in
    let even : length (depth_form p) ≡ 2 * size (depth_form p) = form-length p ∙ ap (λ n. 2 * n) (sym (form-size p)) in
    let back : form_plan (depth_form p) ≡ p = form-back p ok order in
    let passed = (check-exact p).1 ok in
    let shaped = (passes p passed).shaped in
    record {
      accepted =
          form-as-plan (depth_form p)
          (sym (plan-length-ok (depth_form p) even) ∙ ap length_ok back ∙ shaped.long)
          (sym (plan-kinds-ok (depth_form p)) ∙ ap (at_all kind_ok) back ∙ shaped.kinds)
          (levels-by (depth_form p) (form-levels p ok order))
          ∙ ap check_number back ∙ passed;
      long = form-length p ∙ sym ok.even;
      back = back;
    }

pub depths-back : DepthsBack
unfolding form_number
depths-back d h =
    let a = test-passed (length_ok d) 0 _ h in
    let b = test-passed (at_all kind_ok d) 1 _ a.1 in
    let c = test-passed (at_all level_ok d) 16 _ b.1 in
    let l = length-told d a.0 in
    let s = levels-told d l.some c.0 in
    record {
      accepted = (check-exact (form_plan d)).0 (sym (form-as-plan d a.0 b.0 c.0) ∙ h);
      ordered = plan-preorder d l s;
      long = plan-long d ∙ sym l.even;
      again = plan-again d l s;
    }

pub form-exact : FormExact
form-exact d = (
  λ h. let b = depths-back d h in (form_plan d, record { accepted = b.accepted; ordered = b.ordered; form = b.again }),
  λ s. let m = s.1 in sym (ap form_number m.form) ∙ (depths-there s.0 m.accepted m.ordered).accepted,
)

pub to-depths-call : ToDepthsCall
unfolding to_depths_of to_depths_number
to-depths-call p out d = (
  λ h. let r = (replaced-just _ out (depth_form p) d).0 h in
      let k = number_passed (check_number p) _ r.0 in
      let o = test-passed (in_preorder p) 17 _ k.1 in
      let l = test-passed (eqb (length out) (length p)) 6 0 o.1 in
      (record { accepted = (check-exact p).0 k.0; ordered = o.0; form = r.1 }, eqb-true (length out) (length p) l.0),
  λ h. let m = h.0 in rw ((check-exact p).1 m.accepted, m.ordered, eq-eqb (length out) (length p) h.1, m.form),
)

pub from-depths-call : FromDepthsCall
unfolding from_depths_of from_depths_number
from-depths-call d out p = (
  λ h. let r = (replaced-just _ out (form_plan d) p).0 h in
      let k = number_passed (form_number d) _ r.0 in
      let l = test-passed (eqb (length out) (length d)) 6 0 k.1 in
      let b = depths-back d k.0 in
      (rw (← r.1) (record { accepted = b.accepted; ordered = b.ordered; form = b.again }), eqb-true (length out) (length d) l.0),
  λ h. let m = h.0 in
      let t = depths-there p m.accepted m.ordered in
      let z : form_number d ≡ 0 = sym (ap form_number m.form) ∙ t.accepted in
      rw (z, eq-eqb (length out) (length d) h.1, ← m.form, t.back),
)
