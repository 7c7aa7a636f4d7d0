pub mod RowSums
pub mod System
pub mod Perturbation
pub mod Judgement
pub mod Magnitudes
pub mod Finding
pub mod Places
pub mod Equations
