pub mod State
pub mod Runs
pub mod Rooms
pub mod Calls
pub mod Pairs
pub mod Dues
