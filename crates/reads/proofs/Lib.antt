-- Laws that the proofs of several functions cite.
pub mod Texts
pub mod Rows
pub mod Colons
pub mod Tags
pub mod Numbers
pub mod Ints
pub mod Widening
pub mod Partings
pub mod Operators
pub mod Owns
