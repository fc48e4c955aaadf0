pub mod Row
pub mod Climbing
pub mod Climb
pub mod Examples
