pub mod Sources
pub mod Known
pub mod Rows
pub mod Elaborated
pub mod Lookups
