pub mod Ahead
pub mod Strikes
