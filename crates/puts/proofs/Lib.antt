-- Laws that the proofs of several functions cite.
pub mod Masks
pub mod Spots
pub mod Wide
pub mod Chars
pub mod Pairing
