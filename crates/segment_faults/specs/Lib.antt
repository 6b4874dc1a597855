pub mod Ends
pub mod Faults
pub mod Fitting
pub mod Nesting
pub mod Table
