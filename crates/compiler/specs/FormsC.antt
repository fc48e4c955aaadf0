-- Laws of paths, strings, objects. Assumes nothing.
pub mod Noting
pub mod Paths
pub mod Sums
pub mod Strings
pub mod Quoted
pub mod Objects
