mod Signs
pub mod Outlines
