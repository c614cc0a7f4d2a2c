pub mod Matches
pub mod Inside
pub mod Found
