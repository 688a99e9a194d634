pub mod OneOnly
pub mod Accepting
