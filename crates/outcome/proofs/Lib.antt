pub mod Laws
pub mod CallResultLaws
