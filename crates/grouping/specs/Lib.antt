pub mod Ahead
pub mod SoFar
pub mod Faults
