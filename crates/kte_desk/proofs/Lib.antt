pub mod NumberLemmas
pub mod TurnLemmas
pub mod CallLemmas
pub mod JoinLemmas
pub mod CallerLemmas
pub mod HistoryLemmas
pub mod FoundLemmas
pub mod ServeLemmas
