-- The least number of moves, the step that two move tables make, and the sweeps of the builder.
pub mod Bfs
pub mod Held
pub mod Steps
pub mod Truth
