-- Letters: p a plan, lay a layout, row the row that a site's number names, st a state, es a journal's entries, k their count, e an entry, q a row,
-- t a step, ts a list of steps, m a move, ms a list of moves, l what is lent.
pub mod Journal
pub mod Session
