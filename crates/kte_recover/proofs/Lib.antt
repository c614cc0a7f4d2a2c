pub mod InverseLemmas
pub mod ReplayLemmas
pub mod LineEnds
pub mod RunLemmas
pub mod RecoveryLemmas
