pub mod Orders
pub mod Paged
pub mod Puts
