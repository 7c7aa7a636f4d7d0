pub mod Laws
pub mod ResultLaws
