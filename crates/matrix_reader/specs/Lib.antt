pub mod Parts
pub mod PartLaws
pub mod EntryLaws
pub mod RowLaws
pub mod StatusLaws
