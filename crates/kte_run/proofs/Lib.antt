pub mod Left
pub mod Answering
pub mod Files
pub mod GeneratedLemmas
pub mod GenerateLemmas
pub mod CallLemmas
pub mod EditorLemmas
pub mod FollowLemmas
pub mod DueLemmas
pub mod OwnLemmas
pub mod ApartLemmas
pub mod AskLemmas
pub mod CheckerLemmas
pub mod OthersLemmas
pub mod CheckedLemmas
pub mod CountLemmas
pub mod SmallLemmas
pub mod FinishLemmas
pub mod KeepLemmas
pub mod CarryLemmas
pub mod CrewLemmas
pub mod FailLemmas
pub mod BesideLemmas
pub mod OneHistory
pub mod OutputLemmas
pub mod RecoverLemmas
mod Examples
mod ScheduleExamples
mod OutcomeExamples
