pub mod AnswerBounds
pub mod Bounds
pub mod CallLaws
pub mod Theorem
