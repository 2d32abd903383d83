pub mod Answers
pub mod Moves
