pub mod SoundingLaws
pub mod TankLaws
pub mod SoundedLaws
