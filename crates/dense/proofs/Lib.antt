pub mod Places
pub mod Puts
pub mod Wipes
pub mod Making
