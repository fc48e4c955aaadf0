-- What those above cite of `text`, and the laws that its own proofs cite.
pub mod Among
pub mod Rows
pub mod Sequences
pub mod Longest
pub mod Chars
pub mod Bytes
pub mod Encoded
pub mod Decoded
pub mod Texts
pub mod Library
pub mod Promises
