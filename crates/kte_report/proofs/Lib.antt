pub mod LineLemmas
pub mod FaultLemmas
pub mod WritingLemmas
pub mod InLineLemmas
pub mod FieldLemmas
pub mod RowLemmas
pub mod AgainLemmas
pub mod HeldLemmas
pub mod EventLemmas
pub mod JournalLemmas
pub mod SplitLemmas
pub mod ReadingLemmas
mod JournalExamples
pub mod Ascii
mod ReportExamples
mod RecoveryExamples
pub mod RangeLemmas
pub mod ReportLemmas
pub mod HiddenLemmas
