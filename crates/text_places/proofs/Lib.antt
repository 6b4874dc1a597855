pub mod TextLemmas
pub mod TableLemmas
pub mod SlotLemmas
