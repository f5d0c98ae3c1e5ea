-- No table leaves the buffer; another is decoded. Assumes nothing.
use Rattle.text.proofs.CallLaws.{no_table, table-count, table_done}
use borrow.Author.Rules.{rules}
use Rattle.text.proofs.read_table.Goals as goal

pub returns-then-head-eq0 : goal.returns-then-head-eq0
returns-then-head-eq0 c = no_table _ c.requires c.if-head-eq0.true _

pub decode-requires : goal.decode-requires
decode-requires c = record { k_bound = search rules; n_value = table-count _ c.requires c.if-head-eq0.false }

pub returns : goal.returns
returns c = table_done _ c.requires c.if-head-eq0.false _ c.decode.ensures
