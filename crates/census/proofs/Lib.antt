pub mod Places
pub mod Noting
pub mod Meeting
pub mod Owning
