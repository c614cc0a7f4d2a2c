pub mod Bytes
pub mod Calls
pub mod Standing
pub mod Written
mod Examples
