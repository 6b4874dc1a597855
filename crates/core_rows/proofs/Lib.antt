pub mod CoreFormed
pub mod SameRows
pub mod NothingOut
