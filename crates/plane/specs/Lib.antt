pub mod Cells
pub mod Operation
pub mod Kinds
pub mod Refusals
pub mod Meaning
pub mod Laws
pub mod Rectangles
