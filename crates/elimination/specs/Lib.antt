pub mod Matrix
pub mod Steps
pub mod Outcome
pub mod Claims
pub mod Conditions
