pub mod NameTexts
pub mod Declarations
pub mod Combinators
pub mod NameTables
pub mod PassTables
