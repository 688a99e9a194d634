pub mod Floor
pub mod Products
pub mod Ranges
