pub mod Code
pub mod Emitted
pub mod Node
pub mod NodeFalls
pub mod StoredCode
