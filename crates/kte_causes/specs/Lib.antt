pub mod Faults
pub mod Contents
pub mod DiskFaults
pub mod Moments
pub mod Shelf
pub mod Inside
pub mod Memory
