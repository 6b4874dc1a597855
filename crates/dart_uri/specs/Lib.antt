pub mod Segments
pub mod References
