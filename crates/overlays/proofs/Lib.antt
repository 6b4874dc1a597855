pub mod Paths
pub mod Order
pub mod Places
pub mod LookUps
pub mod Requests
