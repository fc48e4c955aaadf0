-- Laws that the proofs of several functions cite.
pub mod Seeks
pub mod Meanings
pub mod Unders
pub mod Widths
