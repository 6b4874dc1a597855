pub mod Meanings
pub mod Forms
pub mod DeclaredNames
pub mod CoreImports
pub mod Units
pub mod Laws
