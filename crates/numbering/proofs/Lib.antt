pub mod Combination
pub mod Counting
pub mod Fill
pub mod Numbers
pub mod Orientation
pub mod Phases
pub mod Survives
