pub mod ListLemmas
pub mod FlatLemmas
pub mod FitLemmas
pub mod ChangeLemmas
pub mod JudgeLemmas
pub mod WalkLemmas
mod Examples
