pub mod TrialStatement
pub mod Edges
pub mod NotSingular
