pub mod Inks
pub mod Refusals
pub mod Distinct
pub mod Board
pub mod Tally
pub mod Records
