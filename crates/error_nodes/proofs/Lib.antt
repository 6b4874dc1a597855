pub mod Parts
pub mod Lying
pub mod Sequences
