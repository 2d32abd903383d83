-- The laws below a row: the cubes of the moves, the coordinate after a move, and which table has which rows and columns.
pub mod After
pub mod Rows
pub mod Six
