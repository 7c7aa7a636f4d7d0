pub mod Outcome
pub mod CallResult
