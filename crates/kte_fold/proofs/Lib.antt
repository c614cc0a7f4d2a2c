pub mod ListLemmas
pub mod PlaceLemmas
pub mod LeastLemmas
pub mod TreeLemmas
pub mod SeatLemmas
pub mod EditLemmas
pub mod CountLemmas
pub mod CarryLemmas
pub mod SpanLemmas
pub mod CallerLemmas
mod Examples
