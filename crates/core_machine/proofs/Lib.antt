pub mod TypeLemmas
pub mod SlotLemmas
pub mod RowLemmas
pub mod Soundness
pub mod RunLemmas
pub mod WrongLemmas
pub mod BadPrograms
