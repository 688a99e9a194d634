pub mod Laying
pub mod Strokes
pub mod Refusals
