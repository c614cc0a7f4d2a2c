pub mod Counting
pub mod Parts
pub mod Added
pub mod Changes
pub mod Shelves
pub mod Examples
pub mod CallerLemmas
