-- Letters: as in desks and keeping.
pub mod Entries
