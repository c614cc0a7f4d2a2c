pub mod InverseLemmas
pub mod GroupLemmas
mod Examples
