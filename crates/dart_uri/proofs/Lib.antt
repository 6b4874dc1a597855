pub mod TextLemmas
pub mod PathLemmas
pub mod SegmentLemmas
