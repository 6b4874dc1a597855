pub mod Emits
pub mod Formed
pub mod Parts
pub mod Sizes
