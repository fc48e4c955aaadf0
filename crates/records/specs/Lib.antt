pub mod Elses
pub mod Operators
pub mod Patterns
pub mod Steps
pub mod Bounds
pub mod Sums
pub mod Calls
