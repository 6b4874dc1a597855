pub mod RequestLemmas
pub mod ReplyLemmas
pub mod OneLineLemmas
pub mod MemberOrder
pub mod RequestLaws
