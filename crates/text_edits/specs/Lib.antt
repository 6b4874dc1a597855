pub mod Brackets
pub mod Twins
pub mod EditedTokens
pub mod EditedBraces
pub mod EditedPieces
