pub mod AppliedLemmas
pub mod KeptLemmas
pub mod CountLemmas
pub mod CurrentLemmas
pub mod WithinLemmas
pub mod ReadingLemmas
pub mod Rows
pub mod TurnLemmas
