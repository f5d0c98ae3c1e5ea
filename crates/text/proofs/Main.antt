-- The main claim of this crate. Assumes nothing.
use Rattle.text.specs.Text.{TextExact, body, plan_lines, step_lines, step_text}
use Rattle.text.proofs.TextLaws.{formed-short}
use Rattle.text.proofs.Written.{lines_are, head-lines, text-back}
use Rattle.text.proofs.ReadBack.{table-read, plan-lines-read, step-lines-read, text-formed}

pub text-exact : TextExact
unfolding plan_lines step_lines
text-exact = record {
  written = λ t f. (head-lines t, lines_are 2 (body t), lines_are 3 (step_text (body t)), text-back t f, formed-short t f);
  read = λ h ps ss hh hp hs l. (text-formed h ps ss hh hp hs l, table-read h ps ss hh hp hs, plan-lines-read h ps ss hh hp hs, step-lines-read h ps ss hh hp hs);
}
