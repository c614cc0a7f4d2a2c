pub mod LockLemmas
pub mod KeptLemmas
pub mod InsideLemmas
pub mod LandingLemmas
mod Examples
