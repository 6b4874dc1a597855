pub mod Clashing
pub mod LinkLemmas
pub mod PlaceTables
pub mod Searching
pub mod Gaining
