pub mod Answers
pub mod Cube
pub mod Solvable
