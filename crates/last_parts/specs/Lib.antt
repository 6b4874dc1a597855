pub mod LastParts
pub mod Expressions
