pub mod CallerLemmas
mod RowLemmas
mod TextLemmas
mod ChangeLemmas
mod CursorLemmas
mod HungLemmas
mod SoundLemmas
mod OffsetLemmas
mod InTextLemmas
mod UnitLemmas
mod TestLemmas
mod Examples
