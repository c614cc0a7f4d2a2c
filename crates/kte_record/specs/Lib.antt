pub mod Grammar
pub mod Reading
pub mod Transactions
pub mod Recovery
pub mod Cuts
