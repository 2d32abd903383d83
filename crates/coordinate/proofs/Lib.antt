pub mod Answers
pub mod Sixteen
pub mod Twelve
