pub mod Seeing
pub mod Spelling
mod Examples
