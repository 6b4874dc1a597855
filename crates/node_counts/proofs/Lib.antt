pub mod Weights
pub mod Pays
pub mod Costs
pub mod StatementCosts
pub mod DeclarationCosts
pub mod Parts
pub mod Whole
pub mod TextTokens
