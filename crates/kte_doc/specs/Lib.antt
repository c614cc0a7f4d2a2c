pub mod Within
pub mod Standings
pub mod Trail
pub mod Hanging
pub mod Documents
pub mod Batches
pub mod Inside
pub mod Examples
