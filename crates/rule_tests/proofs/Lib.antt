pub mod Faultless
pub mod ElaboratedRows
