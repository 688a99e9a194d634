pub mod Placing
pub mod Pixels
pub mod Shown
pub mod Judging
