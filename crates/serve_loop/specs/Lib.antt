pub mod Event
pub mod Replies
pub mod Marks
pub mod Turn
pub mod Parts
pub mod Served
