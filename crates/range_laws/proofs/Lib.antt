pub mod Follow
pub mod Tests
pub mod Same
pub mod Expressions
pub mod Statements
pub mod Declarations
pub mod Places
pub mod Whole
