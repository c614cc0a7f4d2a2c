pub mod Inverse
pub mod Replay
pub mod Answers
