pub mod Placing
pub mod Walking
pub mod Sizes
pub mod Naming
