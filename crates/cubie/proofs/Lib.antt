pub mod Product
pub mod Range
pub mod Solvable
pub mod Turns
