pub mod ConstructorRests
pub mod DeclaredSigns
pub mod OperatorMembers
pub mod PlainForms
pub mod PlainMembers
pub mod Tests
