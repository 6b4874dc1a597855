pub mod Errors
pub mod LiesIn
