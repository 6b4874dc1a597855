pub mod Tables
pub mod Places
pub mod Applied
pub mod OneFile
pub mod Results
