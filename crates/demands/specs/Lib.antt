pub mod Examples
pub mod Plain
pub mod Tally
