-- Letters: n a number, q a site, v a value.
pub mod Result
