pub mod Locks
pub mod Landing
pub mod Revisions
pub mod Inside
pub mod Laws
pub mod Examples
