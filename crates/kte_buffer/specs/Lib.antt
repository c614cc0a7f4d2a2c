pub mod Entries
pub mod Rows
pub mod Cursors
pub mod Buffer
pub mod Inside
pub mod Offset
pub mod Examples
pub mod Laws
