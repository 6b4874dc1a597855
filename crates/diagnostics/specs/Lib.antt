pub mod Codes
pub mod Rendering
