pub mod SortedKeys
pub mod Reports
pub mod TokenCounts
pub mod Parts
