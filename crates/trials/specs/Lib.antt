pub mod Result
pub mod Trials
