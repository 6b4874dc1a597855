pub mod Cases
pub mod Clauses
pub mod Nearest
pub mod Once
pub mod Unread
