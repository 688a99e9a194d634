pub mod Base
pub mod Levels
pub mod Pushes
pub mod Piles
pub mod Basing
pub mod Piling
