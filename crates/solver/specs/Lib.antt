pub mod Refinement
pub mod Ranking
pub mod RankedTrials
pub mod Solution
pub mod Limits
pub mod Claims
pub mod Ranges
