pub mod Number
pub mod Field
pub mod Room
pub mod Outcome
pub mod Refusals
pub mod Promises
