pub mod ForwardLaws
pub mod BackwardLaws
