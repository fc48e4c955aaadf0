pub mod Case
pub mod Lent
pub mod Replay
pub mod Count
