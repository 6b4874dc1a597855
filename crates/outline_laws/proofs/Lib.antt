pub mod Descents
pub mod KindTests
pub mod Outlines
pub mod Ways
