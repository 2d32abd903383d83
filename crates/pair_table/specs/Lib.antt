-- Pairs of coordinates and walks, two move tables with their pruning table, and what the builder answers.
pub mod Answers
pub mod Over
pub mod Pairs
pub mod Tables
