pub mod Answers
pub mod Strokes
pub mod Text
