pub mod Table
pub mod Depth
pub mod TableLaws
pub mod DepthLaws
