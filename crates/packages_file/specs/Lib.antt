pub mod PackagesFile
pub mod Stored
