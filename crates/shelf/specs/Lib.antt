pub mod Keys
pub mod Refusals
pub mod Changes
pub mod Held
