pub mod Parts
pub mod Painted
pub mod Steps
pub mod Alone
pub mod Runs
pub mod TwinRuns
