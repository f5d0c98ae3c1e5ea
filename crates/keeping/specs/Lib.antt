-- Letters: as in journal; st' and k' what is left of a state and a count, len the number of entries, n a number, v a verdict.
pub mod Keeping
