pub mod Facts
pub mod Path
pub mod Steps
