pub mod Around
mod Examples
pub mod Farthest
pub mod Firsts
pub mod Outsides
pub mod Rows
