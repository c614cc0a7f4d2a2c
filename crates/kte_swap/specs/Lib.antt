pub mod Swap
pub mod Saving
pub mod Guards
