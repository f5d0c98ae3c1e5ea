-- The guard writer's answer, a ruling, a verdict, a text's answer, a kept step, a take-back and a naming, as results. Assumes nothing.
use Rattle.std.proofs.Common.{◌≡◌, sym, ap, ◌∙◌, List, ℕ, ◌+◌, ◌*◌, arith}
use Rattle.writer.specs.Written.{written_number, written_rule, written_length, filled, write_of}
use Rattle.writer.specs.declared.WrittenGuard.{WrittenGuard}
use Rattle.writer.specs.Written.{Done, Refused}
use Rattle.site.specs.Step.{Stepped, stepped}
use Rattle.site.specs.Verdict.{Verdict}
use Rattle.central.specs.Rule.{Ruled, ruled}
use Rattle.central.specs.Ruling.{Ruling}
use Rattle.script.specs.Script.{TextRun, text_run}
use Rattle.script.specs.Script.{TextResult}
use Rattle.job.specs.Simulation.{simulated}
use Rattle.journal.specs.declared.Entry.{Entry}
use Rattle.journal.specs.Journal.{Kept, kept, Undone, undone}
use Rattle.points.specs.Points.{points, Naming, naming}
use Rattle.rewind.specs.Return.{Returned, returned}
use Rattle.results.specs.Result.{result_of, of_written, of_verdict, of_ruling, of_text, AsKept, AsUndone, AsNamed, AsReturned}

-- a written guard's result, or its fault's, and the buffer beside it
module _ (p : List ℕ) (code node : ℕ) (b b' : List ℕ) where
  pub done-result : (g : WrittenGuard) → write_of p code node b ≡ filled b' (Done g) → (r : ℕ) → r ≡ result_of 0 g.rule 0 →
      (r + 65536 * g.length ≡ of_written (write_of p code node b).answer) × (b' ≡ (write_of p code node b).buffer)
  unfolding of_written written_number written_rule written_length
  done-result g h r f =
      let z : r + 65536 * g.length ≡ result_of 0 g.rule g.length = omega (arith, f) in
      (z ∙ sym (ap (λ s. of_written s.answer) h), sym (ap (λ s. s.buffer) h))

  pub refused-result : (n : ℕ) → write_of p code node b ≡ filled b' (Refused n) → (r : ℕ) → r ≡ result_of n 0 0 → (r ≡ of_written (write_of p code node b).answer) × (b' ≡ (write_of p code node b).buffer)
  unfolding of_written written_number written_rule written_length
  refused-result n h r f = (f ∙ sym (ap (λ s. of_written s.answer) h), sym (ap (λ s. s.buffer) h))

-- a ruling's result, and the bytes beside it
pub ruling-result : (s : Ruled) (m k : List ℕ) (w : Ruling) → s ≡ ruled m k w → (r : ℕ) → r ≡ of_ruling w → (r ≡ of_ruling s.ruling) × ((m ≡ s.marks) × (k ≡ s.notes))
ruling-result s m k w h r e = (e ∙ sym (ap (λ x. of_ruling x.ruling) h), (sym (ap (λ x. x.marks) h), sym (ap (λ x. x.notes) h)))

-- a verdict's result, and the row beside it
pub step-result : (s : Stepped) (row : List ℕ) (v : Verdict) → s ≡ stepped row v → (r : ℕ) → r ≡ of_verdict v → (r ≡ of_verdict s.verdict) × (row ≡ s.row)
step-result s row v h r e = (e ∙ sym (ap (λ x. of_verdict x.verdict) h), sym (ap (λ x. x.row) h))

-- a text's result, and the buffer beside it
pub text-result : (s : TextRun) (b : List ℕ) (r : TextResult) → s ≡ text_run r b → (q : ℕ) → q ≡ result_of r.number 0 0 → (q + 65536 * r.length ≡ of_text s.result) × (b ≡ s.out)
unfolding of_text
text-result s b r h q e =
    let z : q + 65536 * r.length ≡ result_of r.number 0 r.length = omega arith in
    (z ∙ sym (ap (λ x. of_text x.result) h), sym (ap (λ x. x.out) h))

-- a kept step's result, and all that is lent beside it
pub kept_result : (a : Kept) (st : List ℕ) (v : Verdict) (es : List Entry) (k : ℕ) → a ≡ kept (simulated st v) es k → (r : ℕ) → r ≡ of_verdict v → AsKept a r st es k
kept_result a st v es k h r e = record {
  told = e ∙ sym (ap (λ x. of_verdict x.step.verdict) h);
  state = sym (ap (λ x. x.step.state) h);
  entries = sym (ap (λ x. x.entries) h);
  count = sym (ap (λ x. x.count) h);
}

-- a take-back's result, and all that is lent beside it
pub undone-result : (a : Undone) (n : ℕ) (st : List ℕ) (k : ℕ) → a ≡ undone n st k → (r : ℕ) → r ≡ result_of n 0 0 → AsUndone a r st k
undone-result a n st k h r e = record {
  told = e ∙ sym (ap (λ x. result_of x.number 0 0) h);
  state = sym (ap (λ x. x.state) h);
  count = sym (ap (λ x. x.count) h);
}

-- a naming's result, and the points beside it
pub named-result : (a : Naming) (n : ℕ) (ns ps : List ℕ) → a ≡ naming n ns ps → (r : ℕ) → r ≡ result_of n 0 0 → AsNamed a r ns ps
named-result a n ns ps h r e = record {
  told = e ∙ sym (ap (λ x. result_of x.number 0 0) h);
  names = sym (ap (λ x. x.left.names) h);
  places = sym (ap (λ x. x.left.places) h);
}

-- the result of a take-back with points or of a going back, and all that is lent beside it
pub returned-result : (a : Returned) (n : ℕ) (st : List ℕ) (k : ℕ) (ns ps : List ℕ) → a ≡ returned n st k (points ns ps) → (r : ℕ) → r ≡ result_of n 0 0 → AsReturned a r st k ns ps
returned-result a n st k ns ps h r e = record {
  told = e ∙ sym (ap (λ x. result_of x.number 0 0) h);
  state = sym (ap (λ x. x.state) h);
  count = sym (ap (λ x. x.count) h);
  names = sym (ap (λ x. x.left.names) h);
  places = sym (ap (λ x. x.left.places) h);
}
