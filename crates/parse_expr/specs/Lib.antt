pub mod Attempts
pub mod Calls
pub mod ItemLaws
pub mod Items
pub mod Parts
