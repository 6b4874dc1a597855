pub mod Rows
pub mod TextParts
pub mod Lays
pub mod Expressions
pub mod Statements
pub mod Declarations
pub mod Whole
