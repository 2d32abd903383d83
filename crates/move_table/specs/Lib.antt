-- The block of the six tables, what the builders answer, and the constants of table 5.
pub mod Constants
pub mod Layout
