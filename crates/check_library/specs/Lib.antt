pub mod Units
pub mod Diagnostics
pub mod Order
pub mod Checked
pub mod Faultless
