pub mod Ledgers
pub mod Planes
pub mod Feeding
pub mod Striking
pub mod Looking
