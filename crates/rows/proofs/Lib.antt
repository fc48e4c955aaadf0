pub mod Params
pub mod Patterns
pub mod Notes
