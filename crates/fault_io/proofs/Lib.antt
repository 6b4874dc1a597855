pub mod Gathered
pub mod BytesLemmas
pub mod LinesLemmas
pub mod ReadLemmas
pub mod PathLemmas
pub mod StoredLemmas
