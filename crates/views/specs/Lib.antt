pub mod Tints
pub mod Shows
pub mod Windows
pub mod Refusals
