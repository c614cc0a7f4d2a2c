pub mod Rule
pub mod OnLine
pub mod Brackets
pub mod Findings
pub mod Inside
pub mod Reading
