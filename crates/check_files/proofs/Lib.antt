pub mod Placing
pub mod Sizes
pub mod AgainLemmas
pub mod Places
