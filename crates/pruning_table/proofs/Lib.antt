-- The tables in their blocks, what the contracts of the builders come to, and what true tables say of a search.
pub mod Cuts
pub mod Filling
pub mod Four
pub mod Laws
pub mod Parts
pub mod Ten
