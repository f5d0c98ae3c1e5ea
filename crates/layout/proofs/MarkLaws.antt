-- The marks of a state, each by one byte of it (specs/Layout.antt). Assumes nothing.
use mathlib.Core.Path.{◌≡◌, refl, ◌∙◌}
use mathlib.Core.Bool.{Bool, true, false, cond}
use mathlib.Core.List.{List}
use Prim.Native.Nat.{ℕ, ◌+◌, ◌*◌, ◌<◌}
use lib.ListN.{get_or}
use Rattle.lists.specs.Seq.{table}
use Rattle.lists.proofs.Table.{table-length, table_at, table-by}
use Rattle.plan.specs.Plan.{size}
use Rattle.event.specs.Event.{code_number}
use Rattle.event.specs.Site.{Layout}
use Rattle.event.specs.Bit.{has_bit}
use Rattle.central.specs.Mark.{idle, running, offered, committed, failed, turned_down, mark_number}
use Rattle.row.specs.Row.{heard_in, heard}
use Rattle.job.specs.Simulation.{mark_by, mark_at, end_marks}
use Rattle.job.proofs.StateLaws.{byte_at}
use Rattle.layout.specs.Layout.{via, layout_by, mark_byte}

mark-first : (c a d o s : Bool) → cond c 3 (cond a 4 (cond d 5 (cond o 2 (cond s 1 0)))) ≡ mark_number (cond c committed (cond a failed (cond d turned_down (cond o offered (cond s running idle)))))
unfolding mark_number
mark-first true a d o s = refl
mark-first false true d o s = refl
mark-first false false true o s = refl
mark-first false false false true s = refl
mark-first false false false false true = refl
mark-first false false false false false = refl

module _ (p : List ℕ) (lay : Layout) (st : List ℕ) where
  -- node v's byte in the row of its own site
  abbrev pub own_byte : ℕ → ℕ
  own_byte v = get_or st (lay.home v * size p + v) 0

  mark-is : (v : ℕ) → v < size p → mark_byte (own_byte v) ≡ mark_number (mark_at p lay st v)
  unfolding mark_byte mark_at mark_by heard heard_in code_number
  mark-is v l = rw (byte_at p st (lay.home v) v l) (mark-first (has_bit (own_byte v) 3) (has_bit (own_byte v) 4) (has_bit (own_byte v) 8) (has_bit (own_byte v) 2) (has_bit (own_byte v) 1))

  pub marks-are : table (λ v. mark_byte (own_byte v)) (size p) ≡ end_marks p lay st
  unfolding end_marks
  marks-are =
      let f : ℕ → ℕ = λ v. mark_byte (own_byte v) in
      table-by (λ v. mark_number (mark_at p lay st v)) (size p) (table f (size p)) (table-length f (size p)) (λ i l. table_at f (size p) i l ∙ mark-is i l)

-- by the code's tables and its number of nodes
pub marks-written : (p home : List ℕ) (rows : ℕ) (st : List ℕ) (n : ℕ) → n ≡ size p → table (λ v. mark_byte (get_or st (via home v * n + v) 0)) n ≡ end_marks p (layout_by rows home) st
unfolding layout_by
marks-written p home rows st n e = rw e (marks-are p (layout_by rows home) st)
