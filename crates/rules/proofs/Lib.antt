pub mod Examples
pub mod Returns
pub mod Fine
pub mod Count
pub mod Entry
pub mod Promises
