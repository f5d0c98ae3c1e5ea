-- Letters: p a plan, tab a table of classes, q a site, d a desk or the bytes lent for depths, a answers, m c k the bytes lent for marks, classes and
-- notes, st a state, bs frames of steps, ns their numbers, es a journal's entries, k their count too, name a name, ns ps the names and places of points,
-- b a buffer, t a text, n a number.
pub mod Claim
