pub mod CommentLaws
pub mod SizeLaws
pub mod EntryLaws
pub mod VariationLaws
pub mod CallLaws
mod Examples
