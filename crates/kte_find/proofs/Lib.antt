pub mod PlaceLemmas
pub mod FirstLemmas
pub mod LineLemmas
pub mod RunLemmas
pub mod StackLemmas
pub mod PickLemmas
pub mod SealLemmas
pub mod PlacedLemmas
pub mod LawLemmas
mod Examples
