pub mod Laws
pub mod Ring
pub mod Floor
pub mod Sizes
