-- Laws of the first forms: leaves, arrays, negations, labels, trials, conditionals; a term with its number. What is asked for before each call. Assumes nothing.
pub mod Simple
pub mod Leaves
pub mod Pairs
pub mod Ite
pub mod Terms
pub mod Asks
