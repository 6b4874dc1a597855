pub mod Behind
pub mod Climbing
pub mod Kept
pub mod Next
pub mod Shown
pub mod Sides
pub mod Steps
