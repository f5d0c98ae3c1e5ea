-- Letters: name a name, names and places what is lent of points, k a count, n a place, i a slot, s the slot of a name or for one, j a byte of a name.
pub mod Points
pub mod Keys
pub mod Claim
