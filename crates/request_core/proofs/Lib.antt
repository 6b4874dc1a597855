pub mod HoldingLemmas
pub mod AnswerLemmas
