pub mod Sameness
pub mod Answering
pub mod Listing
pub mod Boards
pub mod Tallies
pub mod Tables
pub mod Recorded
pub mod Recording
