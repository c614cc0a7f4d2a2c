pub mod RecordLemmas
pub mod NumberLemmas
pub mod FieldLemmas
pub mod HeaderLemmas
pub mod TransactionLemmas
pub mod OneReading
pub mod Cut
pub mod WrittenCut
pub mod OneAnswer
mod Examples
