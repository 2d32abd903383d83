pub mod Answers
pub mod Counts
pub mod Over
pub mod Text
pub mod Words
