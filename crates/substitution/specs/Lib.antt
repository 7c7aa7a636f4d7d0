pub mod Passes
pub mod Bounds
