-- Classes, and tables: each a table and one theorem. Assumes nothing.
use mathlib.Core.Path.{◌≡◌, refl}
use mathlib.Core.List.{[], ◌∷◌, ◌++◌, map}
use Rattle.lists.specs.Seq.{all, any, up_from, all_below, table}
use Rattle.plan.specs.Plan.{kind_number, is_kind, kind_of, kind_byte, kind, parent}
use Rattle.retention.specs.Record.{common_table, frame_ok, table_ok, table_number, class_of, above_within, nodes_above, fell, counts_above, counts_as, class}

-- a task's class by its mark, 0 to 6, and a block's
pub classes-right : map (λ m. class (1 ∷ 255 ∷ []) common_table (m ∷ []) 0) (up_from 0 7) ≡ 0 ∷ 3 ∷ 3 ∷ 1 ∷ 2 ∷ 2 ∷ 0 ∷ []
unfolding class class_of counts_as counts_above nodes_above above_within fell common_table is_kind kind_number kind kind_of kind_byte up_from any all
classes-right = refl

pub blocks-right : table (class (3 ∷ 255 ∷ 1 ∷ 0 ∷ 1 ∷ 0 ∷ []) common_table (3 ∷ 3 ∷ 4 ∷ [])) 3 ≡ 0 ∷ 1 ∷ 2 ∷ []
unfolding class class_of counts_as counts_above nodes_above above_within fell common_table is_kind kind_number kind kind_of kind_byte parent up_from table any all
blocks-right = refl

-- a committed task under a block, under a root, by the marks of these: the class of the last node
pub above-right :
    map (λ m. class (3 ∷ 255 ∷ 2 ∷ 0 ∷ 1 ∷ 1 ∷ []) common_table m 2)
    ((3 ∷ 3 ∷ 3 ∷ []) ∷ (1 ∷ 3 ∷ 3 ∷ []) ∷ (3 ∷ 2 ∷ 3 ∷ []) ∷ (1 ∷ 5 ∷ 3 ∷ []) ∷ (4 ∷ 1 ∷ 3 ∷ []) ∷ (4 ∷ 4 ∷ 1 ∷ []) ∷ (4 ∷ 4 ∷ 4 ∷ []) ∷ [])
    ≡ 1 ∷ 3 ∷ 3 ∷ 2 ∷ 2 ∷ 3 ∷ 2 ∷ []
unfolding class class_of counts_as counts_above nodes_above above_within fell common_table is_kind kind_number kind kind_of kind_byte parent any all
above-right = refl

-- tables: the common one; another; too short, too long and empty; marks out of order; class 4; a class for mark 0
pub tables-right :
    map table_number
    (common_table ∷ (0 ∷ 0 ∷ 1 ∷ 0 ∷ 2 ∷ 1 ∷ 3 ∷ 2 ∷ 4 ∷ 3 ∷ 5 ∷ 3 ∷ []) ∷ (0 ∷ 0 ∷ 1 ∷ 3 ∷ 2 ∷ 3 ∷ 3 ∷ 1 ∷ 4 ∷ 2 ∷ []) ∷ (common_table ++ (6 ∷ 0 ∷ [])) ∷ []
    ∷ (0 ∷ 0 ∷ 2 ∷ 3 ∷ 1 ∷ 3 ∷ 3 ∷ 1 ∷ 4 ∷ 2 ∷ 5 ∷ 2 ∷ []) ∷ (0 ∷ 0 ∷ 1 ∷ 3 ∷ 2 ∷ 3 ∷ 3 ∷ 1 ∷ 4 ∷ 2 ∷ 5 ∷ 4 ∷ []) ∷ (0 ∷ 1 ∷ 1 ∷ 3 ∷ 2 ∷ 3 ∷ 3 ∷ 1 ∷ 4 ∷ 2 ∷ 5 ∷ 2 ∷ []) ∷ [])
    ≡ 0 ∷ 0 ∷ 21 ∷ 21 ∷ 21 ∷ 21 ∷ 21 ∷ 21 ∷ []
unfolding table_number table_ok frame_ok common_table all_below
tables-right = refl
