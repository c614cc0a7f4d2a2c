pub mod CallLemmas
mod Examples
pub mod LawLemmas
pub mod PassLemmas
pub mod StoryLemmas
pub mod SumLemmas
pub mod TicketLemmas
pub mod TurnLemmas
pub mod ViewLemmas
