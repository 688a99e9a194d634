pub mod Histories
pub mod Twins
pub mod Outright
pub mod Passed
