pub mod Codes
pub mod Writes
pub mod Run
pub mod Libraries
pub mod Output
pub mod Settled
