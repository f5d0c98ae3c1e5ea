-- Letters: as in desks; fs marks of desks, b a byte of them.
pub mod Tables
