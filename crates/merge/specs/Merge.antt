-- Two rows merged (rules V): what either has heard; and the call that merges another row into a site's own. Definitions only.
use Rattle.std.specs.Prelude.{Bool, cond, ◌&&◌, ◌||◌, not, List, ℕ, eqb, length, get_or}
use Rattle.std.specs.Int.Bits.{bit_or}
use Rattle.lists.specs.Seq.{all, keep, table}
use Rattle.plan.specs.Plan.{size}
use Rattle.plan.specs.Check.{fit_number}
use Rattle.event.specs.Event.{applies}
use Rattle.row.specs.Row.{heard}
use Rattle.merge.specs.Output.{Output, output}
use Rattle.merge.specs.Events.{every}

-- V11: the bits of either row, byte by byte
unfoldable pub merged : List ℕ → List ℕ → List ℕ
merged row other = table (λ v. bit_or (get_or row v 0) (get_or other v 0)) (length row)

-- V12: how many events the other row has that the row has not
unfoldable pub new_events : List ℕ → List ℕ → List ℕ → ℕ
new_events p row other = length (keep (λ e. heard other e && not (heard row e)) (every p))

-- V12, H9: each event that the row has applies
unfoldable pub row_applies : List ℕ → List ℕ → Bool
row_applies p row = all (λ e. not (heard row e) || applies p e) (every p)

-- V12, H7: both rows have one byte a node
unfoldable pub rows_fit : List ℕ → List ℕ → List ℕ → Bool
rows_fit p row other = eqb (length row) (size p) && eqb (length other) (size p)

-- V12, H0: 1 to 6 of the plan, 7 of the rows, 9 where one of them has an event that does not apply
unfoldable pub merge_number : List ℕ → List ℕ → List ℕ → ℕ
merge_number p row other =
    cond (not (eqb (fit_number p (rows_fit p row other)) 0)) (fit_number p (rows_fit p row other))
    (cond (row_applies p row && row_applies p other) 0 9)

-- V12: a refused call leaves the row; any other leaves the merged one, and the value is how many events were new. A site cannot know whether the other
-- row is true
unfoldable pub merge_of : List ℕ → List ℕ → List ℕ → Output
merge_of p row other =
    cond (not (eqb (merge_number p row other) 0)) (output (merge_number p row other) 0 row)
    (output 0 (new_events p row other) (merged row other))
