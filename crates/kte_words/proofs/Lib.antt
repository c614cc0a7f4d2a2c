pub mod MisfitLemmas
pub mod FormLemmas
pub mod NumberLemmas
pub mod CommandLemmas
pub mod CallerLemmas
mod Examples
