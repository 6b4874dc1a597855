pub mod SetterNames
pub mod Stages
