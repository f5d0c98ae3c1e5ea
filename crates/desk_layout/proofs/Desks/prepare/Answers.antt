-- The check, then the rows of the desks, then every node's. Assumes nothing.
use Rattle.std.proofs.Common.{rules, length, sym, ◌∙◌, ap}
use Rattle.lists.proofs.Table.{table-length}
use Rattle.desks.proofs.DeskLaws.{check-accepts}
use Rattle.desk_layout.proofs.PrepareLaws.{rows_are, table-rows}
use Rattle.desk_layout.proofs.Desks.prepare.Goals as goal

pub number_rows-self-requires : goal.number_rows-self-requires
number_rows-self-requires c = let k = c.in_ok-top.ensures.two_after in (ap length k.1 ∙ table-length _ 256, k.2)

pub write_homes-requires : goal.write_homes-requires
write_homes-requires c = let k = c.in_ok-top.ensures.two_after in (check-accepts _ (sym c.in_ok-top.ensures.number_value), c.number_rows-self.ensures.row_after ∙ table-rows _ _ k.1 _ k.2 k.3, search rules)

pub returns : goal.returns
returns c = let k = c.in_ok-top.ensures.two_after in
    let r = c.number_rows-self.ensures in record {
      number_value = c.in_ok-top.ensures.number_value;
      prepared = record { accepted = check-accepts _ (sym c.in_ok-top.ensures.number_value); front = k.0; count = r.value ∙ rows_are _ _ k.1 _ k.2 k.3; homes = c.write_homes.ensures; named = r.row_after ∙ table-rows _ _ k.1 _ k.2 k.3 };
      counted = c.node_count-self.ensures;
    }
