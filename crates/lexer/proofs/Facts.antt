-- What holds of the lexer's definitions, whatever code meets them: `Promises` is the page to read.
pub mod Cases
pub mod Onward
pub mod Shape
pub mod Spans
pub mod Scans
pub mod Sound
pub mod Fuel
pub mod Blanks
pub mod Free
pub mod Kinds
pub mod Tags
pub mod Openers
pub mod Depth
pub mod Listed
pub mod Nesting
pub mod Promises
