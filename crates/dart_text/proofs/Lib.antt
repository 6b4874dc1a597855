mod Examples
pub mod UnitLemmas
pub mod CursorLemmas
pub mod EditLemmas
pub mod PieceLemmas
pub mod LawLemmas
