pub mod DrawLemmas
pub mod KeptLemmas
mod Examples
