pub mod Coordinates
pub mod Kinds
