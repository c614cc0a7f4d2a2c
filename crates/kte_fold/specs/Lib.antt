pub mod Folds
pub mod Tree
pub mod Inside
pub mod Laws
pub mod Examples
