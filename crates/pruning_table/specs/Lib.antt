-- The ten tables in their blocks, and what the builder of all four pruning tables answers.
pub mod Block
pub mod Check
