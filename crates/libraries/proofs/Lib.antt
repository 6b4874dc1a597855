pub mod Among
pub mod Within
pub mod Seconds
pub mod Distinct
pub mod Prefixes
pub mod Told
mod Examples
