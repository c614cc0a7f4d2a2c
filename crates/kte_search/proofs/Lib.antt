pub mod MatchLemmas
pub mod FoundLemmas
mod Examples
