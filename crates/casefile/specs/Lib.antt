pub mod Case
pub mod Layout
pub mod Decode
pub mod Write
pub mod SoundLaws
