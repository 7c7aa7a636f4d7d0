pub mod Text
pub mod TextLaws
pub mod Read
pub mod Variation
