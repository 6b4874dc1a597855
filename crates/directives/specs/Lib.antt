pub mod Uris
pub mod Directives
pub mod DeclaredNames
pub mod Order
pub mod Outlines
pub mod UnitFaults
