pub mod DigitLaws
pub mod ReadingLaws
pub mod DigitsReadLaws
pub mod WritingLaws
mod Examples
