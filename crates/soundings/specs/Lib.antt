pub mod Soundings
pub mod Sounded
