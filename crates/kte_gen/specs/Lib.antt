pub mod Draws
pub mod Commands
