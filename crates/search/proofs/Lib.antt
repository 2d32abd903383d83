pub mod Answered
pub mod Cubes
pub mod Words
