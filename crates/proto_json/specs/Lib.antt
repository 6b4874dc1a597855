pub mod Codes
pub mod Parameters
pub mod Requests
pub mod Heads
pub mod Replies
pub mod RowTexts
