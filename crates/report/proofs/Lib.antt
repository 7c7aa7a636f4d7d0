pub mod Lines
pub mod TextLaws
mod Examples
