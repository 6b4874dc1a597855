-- The rows of `dart:core`.
pub mod CoreTable
pub mod CoreDeclared
