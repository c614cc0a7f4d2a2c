pub mod Table
pub mod Cursors
pub mod Settling
pub mod Starts
pub mod Rows
pub mod Laws
pub mod Examples
