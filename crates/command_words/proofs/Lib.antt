pub mod TextLemmas
pub mod StepLemmas
pub mod ReadLemmas
