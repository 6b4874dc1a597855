pub mod Names
pub mod Parsed
