-- Laws of forms: operators, patterns, folds. Assumes nothing.
pub mod Operators
pub mod Patterns
pub mod Members
pub mod Piping
pub mod Folds
pub mod Whole
pub mod Asks
