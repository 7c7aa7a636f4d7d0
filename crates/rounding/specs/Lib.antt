pub mod Scale
pub mod Half
pub mod Round
pub mod TiesToEven
