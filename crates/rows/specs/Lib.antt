pub mod Same
pub mod Kept
pub mod Grown
pub mod Fields
pub mod Pushed
pub mod Opened
pub mod Noted
