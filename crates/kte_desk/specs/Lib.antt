pub mod Seen
pub mod Works
pub mod WorksOnce
pub mod Passes
pub mod Calls
pub mod Schedule
pub mod Serving
