-- The laws of rows, tables and their block, and that each column has an inverse column.
pub mod Block
pub mod Bounds
pub mod Constants
pub mod Entries
pub mod Offs
pub mod Rows
pub mod Sizes
pub mod Undone
