pub mod Rows
pub mod Operators
pub mod Turns
pub mod Whole
pub mod Promises
pub mod Small
