pub mod TextLemmas
pub mod TurnLemmas
pub mod Progress
pub mod ServeLemmas
