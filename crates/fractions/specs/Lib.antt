pub mod Fraction
pub mod First
pub mod Greatest
pub mod Least
