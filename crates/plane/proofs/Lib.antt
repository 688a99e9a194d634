pub mod Maps
pub mod Algebra
pub mod Carrying
pub mod Order
pub mod Folding
pub mod Rectangles
pub mod Corners
pub mod Walking
