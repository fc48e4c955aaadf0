-- Laws of forms: calls, definitions. Assumes nothing.
pub mod Meanings
pub mod Calls
pub mod Args
pub mod Defs
