mod Examples
pub mod Lists
pub mod Cuts
pub mod Walks
pub mod RunLemmas
pub mod OrderLemmas
pub mod Numbering
pub mod Search
pub mod NumberLaws
