pub mod HalfLaws
pub mod Laws
pub mod TiesToEvenLaws
pub mod Examples
