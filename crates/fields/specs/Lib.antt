pub mod Field
pub mod Due
