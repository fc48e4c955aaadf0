pub mod Cells
pub mod Notes
pub mod Flat
pub mod Packing
pub mod Leaving
pub mod Kinds
pub mod Classes
