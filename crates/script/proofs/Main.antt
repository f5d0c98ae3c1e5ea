-- The claims of this crate. Assumes nothing.
use mathlib.Core.Bool.{◌&&◌}
use native.Mathlib.Omega.{arith}
use lib.Dec.{leb}
use lib.ListN.{length}
use Rattle.lists.specs.Seq.{all_below}
use Rattle.lists.proofs.Logic.{cases, decided}
use Rattle.retention.specs.Record.{common_table, frame_ok, table_ok, table_number}
use Rattle.text.specs.Text.{body_formed, well_formed, plan_bytes, step_bytes}
use Rattle.text.proofs.TextLaws.{no-table-body}
use Rattle.script.specs.Script.{table_of, text_number, text_lines, number_or_lines, printed, PrintedFits, WithoutTable}
use Rattle.script.proofs.ScriptLaws.{text-fits}

pub printed-fits : PrintedFits
printed-fits t = omega (arith, text-fits t)

pub without-table : WithoutTable
unfolding printed text_number text_lines number_or_lines table_number table_ok frame_ok all_below common_table table_of well_formed plan_bytes step_bytes
without-table t h = let b = no-table-body t h in cases (decided (leb (length t) 32768 && body_formed t)) (λ e. rw (h, b, e)) (λ e. rw (h, b, e))
