pub mod FlatLemmas
pub mod CharLemmas
pub mod ReadingLemmas
pub mod SizeLemmas
pub mod FileLemmas
pub mod SplitLemmas
mod FileExamples
pub mod LineLemmas
pub mod PrimitiveLemmas
pub mod Utf8Lemmas
pub mod SavingLemmas
pub mod LoadsLemmas
pub mod WordLemmas
mod Examples
pub mod AroundLemmas
