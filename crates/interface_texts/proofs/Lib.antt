pub mod Numbering
pub mod Ranges
pub mod TokenOrder
