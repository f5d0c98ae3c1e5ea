-- THE THEOREM: demand 1. Assumes nothing.
use mathlib.Core.Path.{◌∙◌}
use mathlib.Core.List.{List}
use Prim.Native.Nat.{ℕ}
use Rattle.plan.specs.Check.{Accepted}
use Rattle.plan.proofs.Main.{check-exact}
use Rattle.event.specs.Site.{own}
use Rattle.retention.specs.Record.{common_table}
use Rattle.site.specs.Step.{site_at}
use Rattle.job.specs.Simulation.{step_from}
use Rattle.simulation.specs.Run.{simulate_of}
use Rattle.simulation.proofs.OwnLaws.{own-laid}
use Rattle.depth_form.proofs.Main.{form-exact}
use Rattle.desks.proofs.Main.{desk-check-exact}
use Rattle.refusals.specs.Claim.{RefusalsLeave, AcceptedPass, Demand1}
use Rattle.refusals.proofs.Leaves.{rewrite-leaves, renumber-leaves, to-depths-leaves, from-depths-leaves, repeat-leaves, next-leaves, load-leaves, depths-leave, guard-leaves, step_left, hear-leaves, simulate-leaves, central-leaves, pass-leaves, impact-leaves, way-leaves, pass-record-leaves, record-leaves, run-leaves, text-leaves, printing-leaves, keep_left, undo-left}
use Rattle.refusals.proofs.Passes.{common-right, rewrite-passes, from-depths-passes, renumber-passes, to-depths-passes, repeat-later, next-later, load-passes, depths-pass, guard-passes, step-later, hear-later, central-later, pass-passes, impact-later, way_later, pass-record-passes, record-passes, run-passes}
use Rattle.refusals.proofs.Simulated.{simulate-later}
use Rattle.refusals.proofs.Journal.{keep-later, undo-later}
use Rattle.refusals.proofs.Points.{name-leaves, name-later, undo-leaves, back-leaves, point-undo-later, point-back-later}
use Rattle.refusals.proofs.Desks.{desk-step-leaves, desk-simulate-leaves, desk-keep-leaves, desk-undo-leaves, desk-point-undo-leaves, desk-point-back-leaves, desk-record-leaves, desk-accepted-pass}

refusals-leave : RefusalsLeave
refusals-leave = record {
  rewrite = rewrite-leaves;
  renumber = renumber-leaves;
  to-depths = to-depths-leaves;
  from-depths = from-depths-leaves;
  repeat = repeat-leaves;
  next-plan = next-leaves;
  workload = load-leaves;
  check-depths = depths-leave;
  guarded = λ p code node b. guard-leaves b p code node;
  step = λ p code node row. step_left p (site_at p code node) code node row;
  hear = hear-leaves;
  simulate = simulate-leaves;
  keep = λ p st es k code node q. keep_left p (own p) (λ r. r) st es k code node q;
  undo = λ p st es k. undo-left p (own p) (λ r. r) st es k;
  point-name = name-leaves;
  point-undo = λ p st es k ns ps. undo-leaves st k ns ps p (own p) (λ r. r) es;
  point-back = λ p name st es k ns ps. back-leaves st k ns ps p (own p) (λ r. r) name es;
  central = λ p code node m k. central-leaves m k p code node;
  pass = pass-leaves;
  impact = impact-leaves;
  way = way-leaves;
  pass-record = λ p tab a m c. pass-record-leaves m c p tab a;
  end-record = λ p st m c. record-leaves m c p (own p) common_table st;
  end-record-by = λ p tab st m c. record-leaves m c p (own p) tab st;
  desk-step = desk-step-leaves;
  desk-simulate = desk-simulate-leaves;
  desk-keep = desk-keep-leaves;
  desk-undo = desk-undo-leaves;
  desk-point-undo = desk-point-undo-leaves;
  desk-point-back = λ p name st es k ns ps. desk-point-back-leaves p st es k ns ps name;
  desk-record = λ p st m c. desk-record-leaves p common_table st m c;
  desk-record-by = desk-record-leaves;
  run = run-leaves;
  text = text-leaves;
  printing = printing-leaves;
}

accepted-pass : (p : List ℕ) → Accepted p → AcceptedPass p
unfolding own simulate_of
accepted-pass p ok = record {
  rewrite = rewrite-passes p ok;
  renumber = renumber-passes p ok;
  to-depths = to-depths-passes p ok;
  repeat = repeat-later p ok;
  next-plan = next-later p ok;
  workload = load-passes p ok;
  check-depths = depths-pass p ok;
  guarded = guard-passes p ok;
  step = λ code node row long. step-later p ok code node row long (site_at p code node);
  hear = hear-later p ok;
  simulate = λ code node q st long. simulate-later p (own p) st (own-laid p st ok long) (step_from code node q);
  keep = λ st es k code node q long room. keep-later p (own p) (λ r. r) st (own-laid p st ok long) es k code node q room;
  undo = λ st es k long within. undo-later p (own p) (λ r. r) st (own-laid p st ok long) es k within;
  point-undo = λ st es k ns ps long within right. point-undo-later p (own p) (λ r. r) st (own-laid p st ok long) es k within ns ps right;
  point-back = λ name st es k ns ps eight long within right. point-back-later p (own p) (λ r. r) st (own-laid p st ok long) es k within ns ps right name eight;
  central = central-later p ok;
  pass = pass-passes p ok;
  impact = impact-later p ok;
  way = way_later p ok;
  pass-record = pass-record-passes p ok;
  end-record = λ st m c ls lm lc. record-passes p ok (own p) common_table st m c ls lm lc ∙ common-right;
  end-record-by = record-passes p ok (own p);
  run = run-passes p ok;
}

pub demand-1 : Demand1
demand-1 = record {
  exact = check-exact;
  accepted = accepted-pass;
  point-name = name-later;
  form-exact = form-exact;
  from-depths = from-depths-passes;
  desk-exact = desk-check-exact;
  desk-accepted = desk-accepted-pass;
  refused = refusals-leave;
}
