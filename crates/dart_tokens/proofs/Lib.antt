mod Examples
pub mod OpenLemmas
pub mod ClosingLemmas
pub mod AroundLemmas
pub mod PartnerLemmas
pub mod FaultLemmas
pub mod LawLemmas
pub mod WordLemmas
pub mod FaultLaws
pub mod NearestLaws
