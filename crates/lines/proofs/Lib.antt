pub mod Moves
pub mod Cells
