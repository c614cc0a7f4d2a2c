pub mod ItemLemmas
pub mod JobLemmas
mod Examples
