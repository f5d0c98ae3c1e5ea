-- Refused, and then nothing is stored; or the entry goes to the count. Assumes nothing.
use Rattle.std.proofs.Common.{refl, sym, ◌∙◌, ap}
use Rattle.keeping.proofs.kept_by.Goals as goal

pub returns-then-report-ne0 : goal.returns-then-report-ne0
returns-then-report-ne0 c = record { same = refl; stored = λ z. absurd (c.if-report-ne0.true (ap (λ r. r.number) c.from-report.ensures ∙ z)); left = λ h. (refl, refl) }

pub entry_of-requires : goal.entry_of-requires
entry_of-requires c = c.requires.code_bound (sym (ap (λ r. r.number) c.from-report.ensures) ∙ c.if-report-ne0.false)

pub returns : goal.returns
returns c = record {
  same = refl;
  stored = λ z. (refl, c.entry_of.ensures, refl);
  left = λ h. absurd (h (sym (ap (λ r. r.number) c.from-report.ensures) ∙ c.if-report-ne0.false));
}
