pub mod Homes
pub mod Census
pub mod Windows
pub mod Faults
