pub mod Units
pub mod Lines
pub mod Edits
pub mod Results
pub mod Cursors
pub mod Parts
pub mod Pieces
