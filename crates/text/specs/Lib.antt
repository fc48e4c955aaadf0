-- The definitions that the contracts of `text` cite.
pub mod Ranges
pub mod Utf8
pub mod Valid
pub mod Space
pub mod Examples
