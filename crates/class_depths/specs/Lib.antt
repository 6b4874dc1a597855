pub mod Settled
pub mod Over
pub mod Marked
pub mod Climbing
pub mod Refusals
