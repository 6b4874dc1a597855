pub mod Ids
pub mod Finding
pub mod Depths
pub mod Falls
pub mod Pairs
pub mod Ways
pub mod Turning
pub mod Refused
